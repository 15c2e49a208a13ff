-- `line_end` meets its contract. Assumes nothing.
use Rattle.text_lines.proofs.Ends.{end-past, end-found, end-missing}
use Rattle.text_lines.proofs.line_end.Goals as goal

pub returns-then-bytes-from : goal.returns-then-bytes-from
returns-then-bytes-from c = end-past c.args.bytes.now c.args.from c.if-bytes-from.true

pub returns-in-Some : goal.returns-in-Some
returns-in-Some c = (end-found c.args.bytes.now c.args.from c.if-bytes-from.false c.in-Some.ensures).0

pub returns-in-None : goal.returns-in-None
returns-in-None c = end-missing c.args.bytes.now c.args.from c.if-bytes-from.false c.in-None.ensures

-- `line_at` meets its contract. Assumes nothing.
use Rattle.text_report.proofs.Numbers.{line-there, line-past}
use Rattle.text_report.proofs.line_at.Goals as goal

pub returns-in-Some : goal.returns-in-Some
returns-in-Some c =
    let e = c.in-Some.ensures.lookup in
    rw (c.from.ensures, c.number_at.ensures, c.number_at-in-Some.ensures, c.number_at-in-Some-2.ensures, c.number_at-in-Some-3.ensures)
    (line-there c.args.judged.now c.args.edits.now c.args.i c.in-Some.edit.now e.3.0 e.1)

pub returns-in-None : goal.returns-in-None
returns-in-None c = line-past c.args.judged.now c.args.edits.now c.args.i c.in-None.ensures.lookup.3

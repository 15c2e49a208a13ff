-- `RowsRead::take_header` meets its contract. Assumes nothing.
use Rattle.std.proofs.Common.{take}
use Rattle.text_reader.proofs.Taking.{header-refused, header-taken}
use Rattle.text_reader.proofs.RowsRead.take_header.Goals as goal

pub returns-then-ne : goal.returns-then-ne
returns-then-ne g c =
    let s = c.args.self.now in
    header-refused g.M.Manner.manner s.count s.edits s.constraints c.args.bytes.now c.header.result.now c.header.ensures c.ne.ensures c.if-ne.true

pub returns : goal.returns
returns g c =
    let s = c.self.inside in
    rw (← c.self.view_is)
    (header-taken g.M.Manner.manner s.line_count (take s.edit_count s.edits) (take s.constraint_count s.constraints) c.args.bytes.now c.header.result.now c.header.ensures c.ne.ensures c.if-ne.false)

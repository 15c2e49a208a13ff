-- `RowsRead::take_line` meets its contract. Assumes nothing.
use Rattle.std.proofs.Common.{◌∙◌, sym}
use Rattle.text_reader.proofs.Feeding.{header-read, row_read}
use Rattle.text_reader.proofs.RowsRead.take_line.Goals as goal

pub returns-then-awaits_header : goal.returns-then-awaits_header
returns-then-awaits_header g c = header-read g.M.Manner.manner c.args.self.now c.args.bytes.now (sym c.awaits_header.ensures ∙ c.if-awaits_header.true) c.take_header.ensures

pub returns : goal.returns
returns g c = row_read g.M.Manner.manner c.args.self.now c.args.bytes.now (sym c.awaits_header.ensures ∙ c.if-awaits_header.false) c.take_row.ensures

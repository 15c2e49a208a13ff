-- `RowsRead::take_row` meets its contract. Assumes nothing.
use Rattle.std.proofs.lemmas.Result.{err_from_is_err_and}
use Rattle.text_reader.proofs.Taking.{unread-taken}
use Rattle.text_reader.proofs.RowsRead.take_row.Goals as goal

pub returns-in_err-row : goal.returns-in_err-row
returns-in_err-row g c =
    let p = err_from_is_err_and c.from_residual.result c.from_residual.ensures.1 in
    rw (p.1, p.2) (unread-taken g.M.Manner.manner c.args.self.now c.in_err-row.field-0.0 c.in_err-row.ensures)

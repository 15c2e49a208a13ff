-- `unity_of` meets its contract. Assumes nothing.
use Rattle.std.proofs.lemmas.Result.{err_from_is_err_and}
use Rattle.unity_table.proofs.Rows.{read-refused}
use Rattle.unity_table.proofs.unity_of.Goals as goal

pub returns-in_err-summed : goal.returns-in_err-summed
returns-in_err-summed c =
    let p = err_from_is_err_and c.from_residual.result c.from_residual.ensures.1 in
    let s = c.loop-row in
    rw (p.1, p.2) (read-refused c.args.answers.now s.row-index c.from.result c.in_err-summed.field-0.0 c.loop-row-test.true c.from.ensures (c.in_err-summed.ensures _ s.invariant))

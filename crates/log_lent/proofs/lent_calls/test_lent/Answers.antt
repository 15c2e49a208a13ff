-- `lent_calls::test_lent` meets its contract. Assumes nothing.
use mathlib.Core.Path.{ap, ◌∙◌}
use native.Mathlib.Omega.{arith}
use Rattle.log_lent.proofs.lent_calls.Given.{told-given, row-elsewhere, row-given}
use Rattle.log_lent.proofs.lent_calls.test_lent.Goals as goal

pub returns-in_err-place : goal.returns-in_err-place
returns-in_err-place c = λ L K. let e = c.in_err-place.ensures in told-given _ _ _ c.from_residual.ensures (e.0 ∙ row-elsewhere L _ e.1)

pub returns : goal.returns
returns c =
    λ L K.
    let q = c.in_ok-place.ensures in
    let r = c.record.ensures L K (omega (arith, q.0, q.1)) in
    row-given L _ _ q.1 c.test_row.ensures (r.0 ∙ ap L.edits q.0) (r.1 ∙ ap L.constraints q.0) (c.row.ensures L K)

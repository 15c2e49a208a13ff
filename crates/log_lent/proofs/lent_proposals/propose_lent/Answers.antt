-- `lent_proposals::propose_lent` meets its contract. Assumes nothing.
use mathlib.Core.Path.{◌∙◌}
use Rattle.log_lent.proofs.lent_calls.Given.{told-given}
use Rattle.log_lent.proofs.lent_proposals.Making.{record-elsewhere, old-elsewhere, proposal-refused, proposal-given}
use Rattle.log_lent.proofs.lent_proposals.propose_lent.Goals as goal

pub returns-in_err-lent : goal.returns-in_err-lent
returns-in_err-lent c = λ L K. let e = c.in_err-lent.ensures in told-given _ _ _ c.from_residual.ensures (e.0 ∙ record-elsewhere L _ e.1)

pub returns-in_err-old : goal.returns-in_err-old
returns-in_err-old c = λ L K. let e = c.in_err-old.ensures in told-given _ _ _ c.from_residual-in_err-old.ensures (e.0 ∙ old-elsewhere L _ e.1)

pub returns-in_err-new : goal.returns-in_err-new
returns-in_err-new c =
    λ L K.
    told-given _ _ _ c.from_residual-in_err-new.ensures
    (proposal-refused L _ c.in_ok-lent.ensures c.in_ok-old.ensures (c.record.ensures L K) (c.record-2.ensures L K) _ c.in_err-new.ensures.0)

pub returns : goal.returns
returns c =
    λ L K.
    let g = c.in_ok-new.ensures in
    proposal-given L _ c.in_ok-lent.ensures c.in_ok-old.ensures (c.record.ensures L K) (c.record-2.ensures L K) g.0 _ (c.fitted.ensures _ g.1)

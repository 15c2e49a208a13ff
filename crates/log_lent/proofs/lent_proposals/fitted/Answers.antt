-- `lent_proposals::fitted` meets its contract. Assumes nothing.
use Rattle.log_lent.proofs.lent_proposals.Making.{few-edit-places, few-constraint-places, places-enough}
use Rattle.log_lent.proofs.lent_proposals.fitted.Goals as goal
use Rattle.log_lent.proofs.lent_proposals.fitted.Goals.{then-edits-new-via-then-edits-new, then-edits-new-via-else-edits-new+then-rules-new}

pub returns-then-edits-new : goal.returns-then-edits-new
returns-then-edits-new c =
    λ P q.
    elim c.then-edits-new.branch [
      | then-edits-new-via-then-edits-new w ↦ (few-edit-places P _ c.args.rules q w.if-edits-new.true, tt)
      | then-edits-new-via-else-edits-new+then-rules-new w ↦ (few-constraint-places P c.args.edits _ q w.if-edits-new.false w.if-rules-new.true, tt)
    ]

pub returns : goal.returns
returns c = λ P q. (places-enough P c.args.edits c.args.rules q c.if-edits-new.false c.if-rules-new.false, q)

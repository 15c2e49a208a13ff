-- `Level::relax_rows` meets its contract. Assumes nothing.
use mathlib.Core.Logic.{⊎_elim}
use Rattle.reasons_costs.proofs.Level.relax_rows.Goals as goal

pub returns-in-Notafter : goal.returns-in-Notafter
returns-in-Notafter c = record {
  covers = c.relax_to.ensures.covers;
  relaxes = ⊎_elim (λ e. rw e (rw e at c.relax_to.ensures.relaxes)) (λ e. rw e (rw e at c.relax_to.ensures.relaxes)) c.in-Notafter.is;
}

pub returns-in-EnabledBy : goal.returns-in-EnabledBy
returns-in-EnabledBy c = record {
  covers = c.relax_from.ensures.covers;
  relaxes = rw c.in-EnabledBy.is (rw c.in-EnabledBy.is at c.relax_from.ensures.relaxes);
}

-- `Level::relax_from` meets its contract. Assumes nothing.
use Rattle.reasons_costs.proofs.Relaxing.{relaxed-from, relaxed-none-from}
use Rattle.reasons_costs.proofs.Level.relax_from.Goals as goal

pub returns-then-any_left : goal.returns-then-any_left
returns-then-any_left c = record {
  covers = c.limit_cost.ensures.covers;
  relaxes = rw c.limit_cost.ensures.is (relaxed-from (c.any_left.ensures.some c.if-any_left.true));
}

pub returns-else-any_left : goal.returns-else-any_left
returns-else-any_left c = record { covers = λ level f. f; relaxes = relaxed-none-from (c.any_left.ensures.none c.if-any_left.false) }

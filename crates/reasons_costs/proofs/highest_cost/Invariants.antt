use Prim.Native.Nat.{ℕ, ◌≤◌, ◌<◌}
use lib.ListN.{get_or}
use Rattle.reasons_costs.specs.Searches.{unreached}
use Rattle.reasons_costs.proofs.highest_cost.Given as goal

abbrev pub invariant-loop-x : goal.invariant-loop-x
invariant-loop-x l = (y : ℕ) → y < l.x → get_or l.costs y 0 < unreached → get_or l.costs y 0 ≤ l.highest

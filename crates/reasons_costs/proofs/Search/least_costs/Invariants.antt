use mathlib.Core.List.{List}
use Prim.Native.Nat.{ℕ}
use Rattle.graph.specs.links.Links.{LinkedByKey}
use Rattle.reasons_costs.specs.Levels.{LinkBelow}
use Rattle.reasons_costs.proofs.Settling.{Spanned}
use Rattle.reasons_costs.proofs.Search.least_costs.Given as goal

abbrev pub invariant-loop-cost : goal.invariant-loop-cost
invariant-loop-cost l =
    (keys : List ℕ) → LinkedByKey keys l.graph.rows
    → Spanned (LinkBelow l.self.relation l.graph.count keys l.graph.rows l.self.marks) l.cost l.highest l.initial.costs l.costs l.span

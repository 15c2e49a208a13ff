use mathlib.Core.List.{List}
use Prim.Native.Nat.{ℕ, ◌≤◌}
use Rattle.graph.specs.links.Links.{LinkedByKey}
use Rattle.reasons_costs.specs.Levels.{LinkBelow, Relaxed, Covers, Covering}
use Rattle.reasons_costs.proofs.Level.relax.Given as goal

abbrev pub invariant-loop-b : goal.invariant-loop-b
invariant-loop-b l =
    (l.b ≤ l.b-end)
    × Covering l.initial.costs l.initial.next l.costs l.next
    × ((keys : List ℕ) → LinkedByKey keys l.self.graph.now.rows → Covers l.self.cost l.initial.costs l.fn.span
    → Relaxed (LinkBelow l.self.search.now.relation l.b keys l.self.graph.now.rows l.self.search.now.marks) l.self.cost l.initial.costs l.costs)

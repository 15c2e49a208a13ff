use Rattle.reasons_costs.specs.Levels.{base_of, Covering}
use Rattle.reasons_costs.proofs.Relaxing.{Relaxing}
use Rattle.reasons_costs.proofs.Level.relax_to.Given as goal

abbrev pub invariant-loop-left : goal.invariant-loop-left
invariant-loop-left l =
    (goal.iterator-loop-left).can_next l.left-iterator × (goal.iterator-loop-left).is_finite l.left-iterator
    × Relaxing (base_of l.self.search.now.relation) l.self.graph.now.rows l.self.search.now.marks l.self.cost l.b l.initial.costs l.left-iterator l.costs
    × Covering l.initial.costs l.initial.next l.costs l.next

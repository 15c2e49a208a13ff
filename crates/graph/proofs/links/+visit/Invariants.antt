use Rattle.std.proofs.Common.{◌-◌}
use Rattle.graph.proofs.links.Reach.{unmarked}
use Rattle.graph.proofs.links.Search.{Walking}
use Rattle.graph.proofs.links.+visit.Given as goal

abbrev pub decreases-visit : goal.decreases-visit
decreases-visit l = 128 - unmarked l.states.now

abbrev pub invariant-loop-left : goal.invariant-loop-left
invariant-loop-left l =
    (goal.iterator-loop-left).can_next l.left-iterator × (goal.iterator-loop-left).is_finite l.left-iterator
    × Walking l.rows l.initial.states l.x l.left-iterator l.states

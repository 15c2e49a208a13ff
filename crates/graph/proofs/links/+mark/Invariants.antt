use Rattle.graph.proofs.links.Reach.{Going, unmarked}
use Rattle.graph.proofs.links.+mark.Given as goal

abbrev pub decreases-mark : goal.decreases-mark
decreases-mark l = unmarked l.marks.now

abbrev pub invariant-loop-left : goal.invariant-loop-left
invariant-loop-left l =
    (goal.iterator-loop-left).can_next l.left-iterator × (goal.iterator-loop-left).is_finite l.left-iterator
    × Going l.base l.rows l.initial.marks l.x l.left-iterator l.marks

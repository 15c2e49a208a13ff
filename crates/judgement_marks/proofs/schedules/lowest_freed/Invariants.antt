use Rattle.judgement_marks.specs.schedules.Rows.{HeldBack}
use Rattle.judgement_marks.proofs.schedules.Ordering.{Freeing}
use Rattle.judgement_marks.proofs.schedules.lowest_freed.Given as goal

abbrev pub invariant-loop-y : goal.invariant-loop-y
invariant-loop-y l =
    (goal.iterator-loop-y).can_next l.y-iterator × (goal.iterator-loop-y).is_finite l.y-iterator
    × Freeing l.reversed (HeldBack l.rows l.waits) l.x l.y-iterator l.best

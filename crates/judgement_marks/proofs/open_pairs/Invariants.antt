use Rattle.judgement_marks.proofs.Opening.{Opening}
use Rattle.judgement_marks.proofs.open_pairs.Given as goal

abbrev pub invariant-loop-a : goal.invariant-loop-a
invariant-loop-a l =
    (goal.iterator-loop-a).can_next l.a-iterator × (goal.iterator-loop-a).is_finite l.a-iterator
    × Opening l.rows l.nevermarks l.initial.openmarks l.b l.a-iterator l.openmarks

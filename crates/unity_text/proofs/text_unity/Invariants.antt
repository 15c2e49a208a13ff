use Rattle.unity_text.proofs.Lines.{SummedUpto}
use Rattle.unity_text.proofs.text_unity.Given as goal

abbrev pub invariant-loop-line : goal.invariant-loop-line
invariant-loop-line l =
    (goal.iterator-loop-line).can_next l.line-iterator × (goal.iterator-loop-line).is_finite l.line-iterator
    × SummedUpto l.text l.summed l.line-iterator.rest.now

use Rattle.log_forms.proofs.productions.Reading.{KeptSoFar}
use Rattle.log_forms.proofs.productions.words_kept.Given as goal

abbrev pub invariant-loop-i : goal.invariant-loop-i
invariant-loop-i l = KeptSoFar l.fn.numbers l.words l.i

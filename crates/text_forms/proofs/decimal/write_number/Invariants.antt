use Rattle.text_forms.proofs.decimal.Laws.{WritingDigits}
use Rattle.text_forms.proofs.decimal.write_number.Given as goal

abbrev pub invariant-loop-i : goal.invariant-loop-i
invariant-loop-i l = WritingDigits l.n l.initial.out l.i l.rest l.out

use Rattle.text_forms.proofs.Reading.{Reading}
use Rattle.text_forms.proofs.store_numbers.Given as goal

abbrev pub invariant-loop-c : goal.invariant-loop-c
invariant-loop-c g l = Reading g.N.Notated.notation l.form l.bytes l.numbers l.rest l.c-index l.k

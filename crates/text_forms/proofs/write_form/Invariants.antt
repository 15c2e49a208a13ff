use Rattle.text_forms.proofs.Filling.{Writing}
use Rattle.text_forms.proofs.write_form.Given as goal

abbrev pub invariant-loop-c : goal.invariant-loop-c
invariant-loop-c l = Writing l.form l.numbers l.initial.out l.out l.at l.c-index l.rest.rest.now

use Rattle.text_forms.proofs.Filling.{Fitting}
use Rattle.text_forms.proofs.form_fit.Given as goal

abbrev pub invariant-loop-c : goal.invariant-loop-c
invariant-loop-c l = Fitting l.form l.numbers l.room l.left l.c-index l.rest.rest.now

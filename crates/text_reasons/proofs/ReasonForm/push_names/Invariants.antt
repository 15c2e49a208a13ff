use Rattle.text_reasons.proofs.NameMarks.{Named}
use Rattle.text_reasons.proofs.ReasonForm.push_names.Given as goal

abbrev pub invariant-loop-i : goal.invariant-loop-i
invariant-loop-i l = Named l.names l.initial.self.form.items l.initial.self.numbers.items l.i l.self.form.items l.self.numbers.items

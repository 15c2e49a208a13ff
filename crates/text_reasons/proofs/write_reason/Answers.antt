-- `write_reason` meets its contract. Assumes nothing.
use Rattle.text_reasons.specs.ReasonLine.{reason_line}
use Rattle.text_reasons.proofs.write_reason.Goals as goal

pub returns : goal.returns
unfolding reason_line
returns c = rw (c.deref.ensures.0, c.deref-2.ensures.0, c.form_of-line.ensures.form, c.form_of-line.ensures.numbers) at c.place_form.ensures

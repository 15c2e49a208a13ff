-- `refusal_line` meets its contract. Assumes nothing.
use Rattle.text_forms.specs.Spelling.{bytes}
use Rattle.text_report.specs.Report.{refusal_form, refusal_line}
use Rattle.text_report.proofs.refusal_line.Goals as goal

pub returns : goal.returns
unfolding refusal_line refusal_form bytes
returns c = record { answer = rw c.from.ensures at c.place_form.ensures.answer; bytes = rw c.from.ensures at c.place_form.ensures.bytes }

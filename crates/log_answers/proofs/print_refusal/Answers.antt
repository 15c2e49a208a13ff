-- `print_refusal` meets its contract. Assumes nothing.
use Rattle.text_forms.specs.Spelling.{bytes}
use Rattle.text_report.specs.Report.{refusal_form, refusal_line}
use Rattle.log_answers.proofs.print_refusal.Goals as goal

pub returns : goal.returns
unfolding refusal_line refusal_form bytes
returns c = rw c.from.ensures at c.print.ensures

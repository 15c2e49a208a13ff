-- `print_record` meets its contract. Assumes nothing.
use Rattle.text_forms.specs.Spelling.{bytes}
use Rattle.text_report.specs.Report.{counts_form}
use Rattle.log_forms.proofs.Printing.{printed-both}
use Rattle.log_answers.specs.Answers.{record_text}
use Rattle.log_answers.proofs.print_record.Goals as goal

pub returns : goal.returns
unfolding record_text counts_form bytes
returns c = printed-both c.print.ensures c.print_text.ensures

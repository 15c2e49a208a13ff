-- `print_report` meets its contract. Assumes nothing.
use Rattle.text_report.specs.Report.{report_of}
use Rattle.log_forms.proofs.Printing.{text-printed}
use mathlib.Core.Path.{refl}
use native.Mathlib.Omega.{arith}
use Rattle.log_answers.proofs.print_report.Goals as goal

pub returns-clause-told : goal.returns-clause-told
returns-clause-told c = λ R e k. let w = c.report_record-end.ensures R e k in rw c.place_at.ensures (text-printed (report_of R) c.args.printer.now w.0 w.1)

pub returns-clause-same : goal.returns-clause-same
returns-clause-same c = rw c.place_at.ensures (record { buffer = record { same_reference = refl; room = omega (arith, c.report_record-end.auto.out) }; line = refl })

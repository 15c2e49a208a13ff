-- `bench_answers::print_cell` meets its contract. Assumes nothing.
use Rattle.log_forms.proofs.Printing.{printed-nothing}
use Rattle.log_answers.proofs.bench_answers.print_cell.Goals as goal

pub returns-in_default : goal.returns-in_default
returns-in_default c = rw c.in_default.is (printed-nothing _)

pub returns-in-Some : goal.returns-in-Some
returns-in-Some c = rw c.in-Some.is (rw (c.cell_form.ensures, c.from.ensures) at c.print.ensures)

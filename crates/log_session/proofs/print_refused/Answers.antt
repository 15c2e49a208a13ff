-- `print_refused` meets its contract. Assumes nothing.
use Rattle.log_forms.proofs.Printing.{printed-nothing}
use Rattle.log_session.proofs.Answered.{refused-so}
use Rattle.log_session.proofs.print_refused.Goals as goal

pub returns-in_default : goal.returns-in_default
returns-in_default c = rw c.in_default.is (printed-nothing c.args.printer.now)

pub returns-in-Err : goal.returns-in-Err
returns-in-Err c = rw c.in-Err.is (refused-so c.args.printer.now.line c.in-Err.refusal _ (rw c.number.ensures at c.print_refusal.ensures))

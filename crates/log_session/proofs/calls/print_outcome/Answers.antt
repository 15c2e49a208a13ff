-- `calls::print_outcome` meets its contract. Assumes nothing.
use Rattle.log_session.proofs.calls.Telling.{pages-only}
use Rattle.log_session.proofs.Answered.{refused-so}
use Rattle.log_session.specs.calls.Lines.{call_text, outcome_text}
use Rattle.log_session.proofs.calls.print_outcome.Goals as goal

pub returns-in-Adopt : goal.returns-in-Adopt
unfolding call_text outcome_text
returns-in-Adopt c = rw (c.in-Ok.is, c.in-Adopt.is) c.print_adoption.ensures

pub returns-in_default : goal.returns-in_default
unfolding outcome_text
returns-in_default c = let e = pages-only c.args.call c.in_default.not-Adopt in rw (c.in-Ok.is, e) c.print_pages.ensures

pub returns-in-Err : goal.returns-in-Err
unfolding outcome_text
returns-in-Err c = rw c.in-Err.is (refused-so c.args.printer.now.line c.in-Err.refusal _ (rw c.number.ensures at c.print_refusal.ensures))

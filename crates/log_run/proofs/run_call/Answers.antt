-- `run_call` meets its contract. Assumes nothing.
use Rattle.log_session.proofs.calls.Telling.{call-held, call-printed}
use Rattle.log_run.proofs.run_call.Goals as goal

pub returns-clause-run : goal.returns-clause-run
returns-clause-run c = λ D H.
    let q = c.make_call-answer.ensures.told D H in
    (call-held D c.args.call c.args.printer.now.line _ q.0 q.1, call-printed D c.args.call c.args.printer.now.line _ q.0 c.print_outcome.ensures)

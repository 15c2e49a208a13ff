-- `calls::run_lend` meets its contract. Assumes nothing.
use Rattle.log_session.proofs.calls.Telling.{lend-printed}
use Rattle.log_session.proofs.calls.run_lend.Goals as goal

pub returns-clause-told : goal.returns-clause-told
returns-clause-told c = λ D H. let q = c.lend_line-told.ensures.told D H in (q.1, lend-printed D _ _ q.0 c.print_refused.ensures)

-- `run_log` meets its contract. Assumes nothing.
use native.Mathlib.Omega.{arith}
use borrow.Author.Rules.{rules}
use Rattle.log_run.proofs.Running.{running-end}
use Rattle.log_run.proofs.run_log.Goals as goal

pub returns-clause-run : goal.returns-clause-run
returns-clause-run c = λ D H k. let q = c.run_some.ensures in let R = q.run D H k in let e = q.stops.ended (search rules) in running-end _ D _ R (omega arith)

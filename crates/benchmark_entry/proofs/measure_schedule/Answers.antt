use Rattle.benchmark_entry.proofs.Answers.{scheduled-ok, scheduled-refused}
use Rattle.benchmark_entry.proofs.measure_schedule.Goals as goal

pub returns-in-Ok : goal.returns-in-Ok
returns-in-Ok c = scheduled-ok c.args.edits.now c.args.constraints.now c.in-Ok.schedule c.in-Ok.ensures.0 c.in-Ok.ensures.1

pub returns-in-Err : goal.returns-in-Err
returns-in-Err c = scheduled-refused c.args.edits.now c.args.constraints.now c.in-Err.refusal c.number.ensures c.in-Err.ensures.0

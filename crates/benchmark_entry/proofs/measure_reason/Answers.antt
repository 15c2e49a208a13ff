-- `measure_reason` meets its contract. Assumes nothing.
use Rattle.benchmark_entry.proofs.Answers.{explained-ok, explained-refused}
use Rattle.benchmark_entry.proofs.measure_reason.Goals as goal

pub returns-in-Ok-clause-answer : goal.returns-in-Ok-clause-answer
returns-in-Ok-clause-answer c = explained-ok c.args.edits.now c.args.constraints.now c.args.edit c.args.out.now c.in-Ok.ensures.answer.0 c.in-Ok.ensures.answer.1

pub returns-in-Err-clause-answer : goal.returns-in-Err-clause-answer
returns-in-Err-clause-answer c =
    explained-refused c.args.edits.now c.args.constraints.now c.args.edit c.args.out.now c.in-Err.refusal c.number.ensures c.in-Err.ensures.answer.0

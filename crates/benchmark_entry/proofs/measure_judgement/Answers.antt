use Rattle.std.proofs.Common.{◌∙◌}
use Rattle.benchmark_entry.proofs.Answers.{judged-ok, judged-refused}
use Rattle.benchmark_entry.proofs.measure_judgement.Goals as goal

pub returns-in-Ok : goal.returns-in-Ok
returns-in-Ok c = c.judgement_numbers.ensures ∙ judged-ok c.args.edits.now c.args.constraints.now c.in-Ok.judgement c.in-Ok.ensures.0 c.in-Ok.ensures.1

pub returns-in-Err : goal.returns-in-Err
returns-in-Err c = judged-refused c.args.edits.now c.args.constraints.now c.in-Err.refusal c.number.ensures c.in-Err.ensures.0

-- `is_out_of_range` meets its contract. Assumes nothing.
use Rattle.unity_table.proofs.Steps.{range-total, range-sum}
use Rattle.unity_table.proofs.Weights.is_out_of_range.Goals as goal

pub returns-then-self-gt-TOTAL_LIMIT : goal.returns-then-self-gt-TOTAL_LIMIT
returns-then-self-gt-TOTAL_LIMIT c = range-total c.args.self c.if-self-gt-TOTAL_LIMIT.true

pub returns-else-self-gt-TOTAL_LIMIT : goal.returns-else-self-gt-TOTAL_LIMIT
returns-else-self-gt-TOTAL_LIMIT c = range-sum c.args.self c.saturating_add.result c.saturating_add.ensures c.if-self-gt-TOTAL_LIMIT.false

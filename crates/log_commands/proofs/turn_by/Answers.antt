-- `turn_by` meets its contract. Assumes nothing.
use Rattle.std.proofs.lemmas.Result.{err_from_is_err_and}
use Rattle.log_commands.proofs.Numbers.{turn-near, turn-far}
use Rattle.log_commands.proofs.turn_by.Goals as goal

pub returns-in_err-by : goal.returns-in_err-by
returns-in_err-by c =
    let p = err_from_is_err_and c.from_residual.result c.from_residual.ensures.1 in
    rw (p.1, p.2) (turn-far c.args.pages c.ranges.pages c.try_from.result c.try_from.ensures c.or.ensures c.in_err-by.was)

pub returns : goal.returns
returns c = turn-near c.args.pages c.ranges.pages c.try_from.result c.try_from.ensures c.or.ensures c.in_ok-by.was

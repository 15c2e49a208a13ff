-- `row::is_side` meets its contract. Assumes nothing.
use Rattle.record_rows.specs.row.Row.{is_side}
use Rattle.record_rows.proofs.row.is_side.Goals as goal

pub returns : goal.returns
unfolding is_side
returns c = rw c.is_name.ensures

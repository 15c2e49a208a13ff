-- `follows` meets its contract. Assumes nothing.
use Rattle.record_tables.proofs.Tables.{follows-none, follows-last}
use Rattle.record_tables.proofs.follows.Goals as goal

pub returns-in-empty : goal.returns-in-empty
returns-in-empty g c = λ a. follows-none g.T.Element.KEY c.args.above.now c.args.row.now c.in-empty.len_below

pub returns-in-len1-up : goal.returns-in-len1-up
returns-in-len1-up g c = follows-last g.T.Element.KEY c.args.above.now c.args.row.now c.in-len1-up.len_at_least c.last-item.is (rw c.KEY.ensures at c.below.ensures)

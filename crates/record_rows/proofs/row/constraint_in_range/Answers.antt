-- `row::constraint_in_range` meets its contract. Assumes nothing.
use lib.Dec.{ltb}
use Rattle.record_rows.specs.row.Row.{cell, constraint_width, rule_limit, constraint_in_range}
use Rattle.record_rows.proofs.row.Cells.{row-in-range}
use borrow.Author.Rules.{rules}
use Rattle.record_rows.proofs.row.constraint_in_range.Goals as goal

pub returns : goal.returns
unfolding constraint_in_range
returns c = (row-in-range c.args.row constraint_width (ltb (cell c.args.row 1) rule_limit) (search rules) c.is_side.ensures c.is_side-2.ensures, search rules)

-- `Element::row` of a constraint meets its contract. Assumes nothing.
use Rattle.record_rows.specs.row.Row.{constraint_row}
use Rattle.record_rows.proofs.element.ConstraintElementCONSTRAINT_CELLS.row.Goals as goal

pub returns : goal.returns
unfolding constraint_row
returns c = rw (c.from.ensures, c.from-2.ensures, c.from-3.ensures)

-- `Element::row` of an edit meets its contract. Assumes nothing.
use Rattle.std.proofs.Common.{arith}
use Rattle.std.proofs.lemmas.Grind.{common_steps}
use Rattle.record_rows.specs.row.Row.{edit_row}
use Rattle.record_rows.proofs.element.EditElementEDIT_CELLS.row.Goals as goal

pub returns-in-Insert : goal.returns-in-Insert
unfolding edit_row
returns-in-Insert c = rw (c.in-Insert.is, c.from-name.ensures, c.from.ensures)

pub returns-in-Set : goal.returns-in-Set
unfolding edit_row
returns-in-Set c = grind (arith, common_steps)

pub returns-in-Remove : goal.returns-in-Remove
unfolding edit_row
returns-in-Remove c = rw (c.in-Remove.is, c.from-name.ensures, c.from-in-Remove.ensures)

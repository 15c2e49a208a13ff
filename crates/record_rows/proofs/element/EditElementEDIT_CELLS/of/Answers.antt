-- `Element::of` of an edit meets its contract. Assumes nothing.
use Rattle.record_rows.specs.row.Row.{edit_of}
use Rattle.record_rows.proofs.element.EditElementEDIT_CELLS.of.Goals as goal

pub returns : goal.returns
unfolding edit_of
returns c = rw (c.unwrap_or.ensures, c.decoded_edit.ensures, c.filler.ensures)

-- `Element::below` of an edit meets its contract. Assumes nothing.
use mathlib.Core.Path.{sym}
use Rattle.lists.proofs.Order.{less_one}
use Rattle.record_rows.proofs.element.EditElementEDIT_CELLS.below.Goals as goal

pub returns : goal.returns
returns c = sym (less_one _ _)

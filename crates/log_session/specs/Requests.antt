-- The lines of a call log that make a call on the bench. Assumes nothing.
use Rattle.std.specs.Prelude.{cond}
use Rattle.ledger.specs.Ledger.{add_edit, add_constraint, merge, hide, show, turn, adopt}
use Rattle.log_commands.specs.declared.Call.{Call}
use Rattle.log_commands.specs.declared.Call.TheVariants.{AddEdit, AddConstraint, Merge, Hide, Show, Turn, Adopt}
use Rattle.log_lent.specs.Lent.{is_lent}
use Rattle.log_lent.specs.lent_calls.Calls.{proposals_of}
use Rattle.log_session.specs.Desk.{Desk, Request, outside, make}
use Rattle.log_session.specs.Lends.{edit_cells_row, constraint_cells_row}

-- the call of the ledger that a line makes
unfoldable pub request_of : Desk → Call → Request
request_of D (AddEdit cells) = make (add_edit (edit_cells_row cells))
request_of D (AddConstraint cells) = make (add_constraint (constraint_cells_row cells))
request_of D (Merge k) = cond (is_lent k) (make (merge (D.lent.edits k) (D.lent.constraints k))) outside
request_of D (Hide edit) = make (hide edit)
request_of D (Show edit) = make (show edit)
request_of D (Turn pages) = make (turn pages)
request_of D (Adopt edit) = make (adopt edit (proposals_of D.lent) D.lent.roll)

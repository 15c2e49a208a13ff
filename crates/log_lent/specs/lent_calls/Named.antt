-- Inner: an edit of a record by its name. Assumes nothing.
use Rattle.std.specs.Prelude.{cond, ℕ, Option, Some, None}
use Rattle.lists.specs.Lists.{mem}
use Rattle.record.specs.Record.{Record, written}
use Rattle.record.specs.Stored.{edit_named}
use Rattle.record_rows.specs.row.Row.{Row, edit_row}

-- the row of the edit of a name that the record knows
unfoldable pub row_known : Record → ℕ → Option Row
row_known R x = cond (mem x (written R)) (Some (edit_row (edit_named R.edits x))) None

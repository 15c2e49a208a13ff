-- Inner: the rows that stand above a row of a text, and what the row has where it is without fault. Assumes nothing.
use Rattle.std.specs.Prelude.{◌≡◌, List, [], ℕ, ◌<◌, length}
use Rattle.record.specs.Stored.{edit_limit, constraint_limit, stored}
use Rattle.record.specs.declared.Record as declared
use Rattle.record_rows.specs.row.Row.{Row, cell, name_limit}
use Rattle.record_rows.specs.grounds.Ground.{Rows}
use Rattle.record_tables.specs.Table.{names_of}
use Rattle.record_tables.specs.Checked.{Checked, MarksNames}
use Rattle.text.specs.Text.{Manner, rows_number}

-- they were read without fault, and the names of the edits are marked
pub record ReadAbove (M : Manner) (edits constraints : Rows) (marks : List ℕ) : Type 0 where
  pub faultless : rows_number M edits constraints ≡ 0
  pub marked : MarksNames marks (names_of edits)

-- an edit stands below edits alone, and there is a place for it and a mark for its name
pub record EditPlace (edits constraints : Rows) (row : Row) : Type 0 where
  pub edits-first : constraints ≡ []
  pub place : length edits < edit_limit
  pub name : cell row 0 < name_limit

abbrev pub ConstraintPlace : Rows → Type 0
ConstraintPlace constraints = length constraints < constraint_limit

-- such rows are a record whose tables are without fault
pub record Gathers (M : Manner) (edits constraints : Rows) (content : declared.Record) : Type 0 where
  pub is : content ≡ stored (M.gathered edits constraints)
  pub checked : Checked (M.gathered edits constraints)

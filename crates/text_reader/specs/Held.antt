-- Inner: the rows of a text as the reader holds them while it goes on; Text.antt of `text` says what is read. Assumes nothing.
use Rattle.std.specs.Prelude.{◌≡◌, cond, List, ℕ, suc, ◌+◌, ◌≤◌, eqb, length, take, Result, Ok}
use Rattle.record.specs.Stored.{edit_limit, constraint_limit}
use Rattle.record_rows.specs.row.Row.{Row, same, name_limit}
use Rattle.record_rows.specs.grounds.Ground.{Rows}
use Rattle.refusals.specs.declared.Refusal.{Refusal}
use Rattle.text_lines.specs.declared.Line.{Line}
use Rattle.text_lines.specs.declared.Line.TheVariants.{Edit, Constraint}
use Rattle.text.specs.Text.{Manner, Parsed, Accepted, Refused, ReadSoFar, line_fault, with_header, with_line}
use Rattle.text.specs.Above.{ReadAbove}

-- n edits and m constraints that the lines gave without fault, with the marks of the edits' names; each line gave one but the header
pub record RowsHeld (M : Manner) (edits constraints : Rows) (marks : List ℕ) (n m count : ℕ) : Type 0 where
  pub edit-size : length edits ≡ edit_limit
  pub constraint-size : length constraints ≡ constraint_limit
  pub mark-size : length marks ≡ name_limit
  pub few-edits : n ≤ edit_limit
  pub few-constraints : m ≤ constraint_limit
  pub few-lines : count ≤ suc (n + m)
  pub above : ReadAbove M (take n edits) (take m constraints) marks

-- a line was judged below the rows, and its row is one of them where it has no fault
pub record LineTaken (M : Manner) (before : ReadSoFar) (said : Result Line Refusal) (number : ℕ) (after : ReadSoFar) : Type 0 where
  pub number_is : number ≡ line_fault M before.edits before.constraints said
  pub rows-are : after ≡ cond (eqb number 0) (with_line said before) before

abbrev pub EditTaken : Manner → ReadSoFar → Row → ℕ → ReadSoFar → Type 0
EditTaken M before row number after = LineTaken M before (Ok (Edit row)) number after

abbrev pub ConstraintTaken : Manner → ReadSoFar → Row → ℕ → ReadSoFar → Type 0
ConstraintTaken M before row number after = LineTaken M before (Ok (Constraint row)) number after

-- a line was judged as the header
pub record HeaderTaken (M : Manner) (before : ReadSoFar) (line : List ℕ) (number : ℕ) (after : ReadSoFar) : Type 0 where
  pub number_is : number ≡ cond (same line M.header) 0 1
  pub rows-are : after ≡ cond (same line M.header) (with_header before) before

-- a line is read, or has this number and nothing of it is read
abbrev pub LineRead : Parsed ReadSoFar → ReadSoFar → ℕ → ReadSoFar → Type 0
LineRead (Accepted more) before number after = (number ≡ 0) × (after ≡ more)
LineRead (Refused n line) before number after = (number ≡ n) × (n ≡ 0 → ⊥) × (line ≡ suc before.count) × (after ≡ before)

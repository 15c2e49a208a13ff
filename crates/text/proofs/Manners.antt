-- The laws of a manner of texts, over which the round trips are shown. Assumes nothing.
use mathlib.Core.Path.{◌≡◌}
use mathlib.Core.Bool.{true}
use mathlib.Core.List.{List, [], ◌∷◌, ◌++◌}
use Prim.Native.Nat.{ℕ, ◌+◌, ◌≤◌, ◌<◌}
use lib.Dec.{ltb}
use lib.ListN.{length}
use Rattle.std.specs.Prelude.{Result, Ok, Err, cond}
use Rattle.record_rows.specs.row.Row.{Row}
use Rattle.record_rows.specs.grounds.Ground.{Rows}
use Rattle.record_tables.specs.Checked.{Checked}
use Rattle.refusals.specs.declared.Refusal.{Refusal}
use Rattle.refusals.specs.declared.Refusal.TheVariants.{NotInForm}
use Rattle.refusals.specs.Numbers.{number}
use Rattle.text_lines.specs.declared.Line.{Line}
use Rattle.text_lines.specs.declared.Line.TheVariants.{Edit, Constraint}
use Rattle.text_lines.specs.Line.{line_limit}
use Rattle.text_lines.specs.Lines.{lines}
use Rattle.text.specs.Text.{LineManner, Manner, rows_number}

-- what a line says is written as that line, and its row has a line of its own; a refusal is 1 or 2
abbrev pub SaidBack : LineManner → Result Line Refusal → List ℕ → Type 0
SaidBack L (Ok (Edit row)) line = (line ≡ L.edit row) × (L.spells_edit row ≡ true)
SaidBack L (Ok (Constraint row)) line = (line ≡ L.constraint row) × (L.spells_constraint row ≡ true)
SaidBack L (Err refusal) line = number refusal ≤ 2

pub record LawfulLines (L : LineManner) : Type 0 where
  -- the line of a row that has one is one line, and is read as its row
  pub edit-first : (row : Row) (rest : List ℕ) → L.spells_edit row ≡ true → lines (L.edit row ++ rest) ≡ L.edit row ∷ lines rest
  pub constraint-first : (row : Row) (rest : List ℕ) → L.spells_constraint row ≡ true → lines (L.constraint row ++ rest) ≡ L.constraint row ∷ lines rest
  pub edit-read : (row : Row) → L.spells_edit row ≡ true → L.reads (L.edit row) ≡ Ok (Edit row)
  pub constraint-read : (row : Row) → L.spells_constraint row ≡ true → L.reads (L.constraint row) ≡ Ok (Constraint row)
  -- any line
  pub said-back : (line : List ℕ) → SaidBack L (L.reads line) line
  pub too-long : (line : List ℕ) → line_limit < length line → L.reads line ≡ Err NotInForm

pub record LawfulManner (M : Manner) : Type 0 where
  pub lawful-lines : LawfulLines M.line
  -- the header is one line
  pub header-first : ltb 0 (length M.header) ≡ true → (rest : List ℕ) → lines (M.header ++ rest) ≡ M.header ∷ lines rest
  pub header-short : length M.header ≤ line_limit
  -- no edit follows a constraint
  pub edits-first : (edits constraints : Rows) (row : Row) → M.edit_number edits constraints row ≡ 0 → constraints ≡ []
  -- rows without fault are few, and are those of their record, which is checked
  pub few : (edits constraints : Rows) → rows_number M edits constraints ≡ 0 → length edits + length constraints ≤ 639
  pub checked : (edits constraints : Rows) → rows_number M edits constraints ≡ 0 → Checked (M.gathered edits constraints)
  pub edits-back : (edits constraints : Rows) → rows_number M edits constraints ≡ 0 → M.edits (M.gathered edits constraints) ≡ edits
  pub constraints-back : (edits constraints : Rows) → rows_number M edits constraints ≡ 0 → M.constraints (M.gathered edits constraints) ≡ constraints

-- how many lines stand before the rows
abbrev pub header_lines : Manner → ℕ
header_lines M = cond (ltb 0 (length M.header)) 1 0

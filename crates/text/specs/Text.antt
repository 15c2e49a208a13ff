-- Document 01, "Text" and "What is turned away": a whole text, written and read line by line, in any manner, and the old manner. Assumes nothing.
use Rattle.std.specs.Prelude.{Bool, false, ◌&&◌, cond, List, [], ◌∷◌, ◌++◌, map, ℕ, suc, ltb, eqb, length, Result, Ok, Err}
use Rattle.lists.specs.Lists.{all}
use Rattle.record.specs.Record.{Record}
use Rattle.record.specs.Judgement.{sound}
use Rattle.record_rows.specs.row.Row.{Row, same, cell, edit_row}
use Rattle.record_rows.specs.grounds.Ground.{Rows, row_fault, first_fault, ◌given◌, ◌orelse◌}
use Rattle.record_tables.specs.Table.{edit_rows, constraint_rows, decoded, names_of, edit_kind, constraint_kind}
use Rattle.refusals.specs.declared.Refusal.{Refusal}
use Rattle.refusals.specs.Numbers.{number}
use Rattle.text_lines.specs.declared.Line.{Line}
use Rattle.text_lines.specs.declared.Line.TheVariants.{Edit, Constraint}
use Rattle.text_forms.specs.Spelling.{Notation, decimal_notation}
use Rattle.text_lines.specs.Line.{edit_line_in, constraint_line_in, line_read_in, fits_word}
use Rattle.text_lines.specs.Row.{is_edit_row_in, is_constraint_row_in}
use Rattle.text_lines.specs.Lines.{lines}

-- How the line of a row is read and written, and the rows that have a line of their own.
pub record LineManner : Type 0 where
  pub reads : List ℕ → Result Line Refusal
  pub edit : Row → List ℕ
  pub constraint : Row → List ℕ
  pub spells_edit : Row → Bool
  pub spells_constraint : Row → Bool

-- A manner of texts.
pub record Manner : Type 0 where
  pub line : LineManner
  -- the line before the rows; [] where a text begins with them
  pub header : List ℕ
  -- the number of an edit's row, and of a constraint's, below the rows read before it, edits and constraints; 0 is no fault
  pub edit_number : Rows → Rows → Row → ℕ
  pub constraint_number : Rows → Rows → Row → ℕ
  -- the rows of a record in the order of their lines, and the record that such rows are
  pub edits : Record → Rows
  pub constraints : Record → Rows
  pub gathered : Rows → Rows → Record

unfoldable pub joined_lines : List (List ℕ) → List ℕ
joined_lines [] = []
joined_lines (line ∷ rest) = line ++ joined_lines rest

-- what is told of a text, or of a line of it: what it gives, or the number of the refusal and the line, counted from 1
pub data Parsed (A : Type 0) : Type 0 where
  Accepted : A → Parsed A
  Refused : ℕ → ℕ → Parsed A

-- of a whole text: its record
abbrev pub Answer : Type 0
Answer = Parsed Record

-- what follows, where nothing is refused before it
infixr 30 ◌followed_by◌
abbrev pub ◌followed_by◌ : {A B : Type 0} → Parsed A → (A → Parsed B) → Parsed B
(Accepted x) followed_by more = more x
(Refused number line) followed_by more = Refused number line

-- what the lines read so far gave: how many they are, and the rows
pub record ReadSoFar : Type 0 where
  pub count : ℕ
  pub edits : Rows
  pub constraints : Rows

abbrev pub text_begun : ReadSoFar
text_begun = record { count = 0; edits = []; constraints = [] }

-- with one more line: the header, or that of a row
abbrev pub with_header : ReadSoFar → ReadSoFar
with_header before = record { count = suc before.count; edits = before.edits; constraints = before.constraints }

abbrev pub with_line : Result Line Refusal → ReadSoFar → ReadSoFar
with_line (Ok (Edit row)) before = record { count = suc before.count; edits = before.edits ++ (row ∷ []); constraints = before.constraints }
with_line (Ok (Constraint row)) before = record { count = suc before.count; edits = before.edits; constraints = before.constraints ++ (row ∷ []) }
with_line (Err refusal) before = before

-- after the rows comes 8, with the count of lines
abbrev pub judged : ℕ → Record → Answer
judged count R = cond (sound R) (Accepted R) (Refused 8 count)

module _ (M : Manner) where
  -- The writer: the header, one line to an edit, then one to a constraint.
  unfoldable pub rows_text : Rows → Rows → List ℕ
  rows_text edits constraints = joined_lines (map M.line.edit edits) ++ joined_lines (map M.line.constraint constraints)

  unfoldable pub written_in : Record → List ℕ
  written_in R = M.header ++ rows_text (M.edits R) (M.constraints R)

  -- The reader: begin, line by line, finish. The first faulty line decides.
  -- the lowest number that applies to a line of a row: 1 where it is not in form, 2 where a number does not fit, then those of its row
  unfoldable pub line_fault : Rows → Rows → Result Line Refusal → ℕ
  line_fault edits constraints (Ok (Edit row)) = M.edit_number edits constraints row
  line_fault edits constraints (Ok (Constraint row)) = M.constraint_number edits constraints row
  line_fault edits constraints (Err refusal) = number refusal

  -- the header is the first line, where the manner has one
  abbrev pub awaits_header : ℕ → Bool
  awaits_header count = eqb count 0 && ltb 0 (length M.header)

  abbrev pub header_fed : ReadSoFar → List ℕ → Parsed ReadSoFar
  header_fed before line = cond (same line M.header) (Accepted (with_header before)) (Refused 1 (suc before.count))

  abbrev pub row_fed : ReadSoFar → Result Line Refusal → Parsed ReadSoFar
  row_fed before said =
      let number = line_fault before.edits before.constraints said in
      cond (eqb number 0) (Accepted (with_line said before)) (Refused number (suc before.count))

  unfoldable pub line_fed : ReadSoFar → List ℕ → Parsed ReadSoFar
  line_fed before line = cond (awaits_header before.count) (header_fed before line) (row_fed before (M.line.reads line))

  -- 1 at line 1 where the header lacks
  unfoldable pub text_finished : ReadSoFar → Answer
  text_finished before = cond (awaits_header before.count) (Refused 1 1) (judged before.count (M.gathered before.edits before.constraints))

  unfoldable pub read_from : ReadSoFar → List (List ℕ) → Answer
  read_from before [] = text_finished before
  read_from before (line ∷ rest) = line_fed before line followed_by (λ now. read_from now rest)

  unfoldable pub read_in : List ℕ → Answer
  read_in text = read_from text_begun (lines text)

  -- the number of the first faulty row of two tables, each row below those above it
  unfoldable pub rows_number : Rows → Rows → ℕ
  rows_number edits constraints =
      first_fault (λ above row. M.edit_number above [] row) [] edits orelse first_fault (λ above row. M.constraint_number edits above row) [] constraints

-- Rows in the record's own order. A constraint knows the edits above it; an edit after a constraint gets 13; `last` is a ground of an edit after the others.
unfoldable pub edit_fault : (Row → ℕ) → Rows → Rows → Row → ℕ
edit_fault last edits constraints row = row_fault edit_kind [] edits row orelse 13 given ltb 0 (length constraints) orelse last row

unfoldable pub constraint_fault : Rows → Rows → Row → ℕ
constraint_fault edits constraints row = row_fault (constraint_kind (names_of edits) false) [] constraints row

abbrev pub own_manner : LineManner → List ℕ → (Row → ℕ) → Manner
own_manner line header last = record {
  line = line;
  header = header;
  edit_number = edit_fault last;
  constraint_number = constraint_fault;
  edits = edit_rows;
  constraints = constraint_rows;
  gathered = decoded;
}

-- The old manner: no header, and no ground of an edit besides.
abbrev pub no_ground : Row → ℕ
no_ground row = 0

-- the lines in a notation
abbrev pub lines_in : Notation → LineManner
lines_in N = record {
  reads = line_read_in N;
  edit = edit_line_in N;
  constraint = constraint_line_in N;
  spells_edit = is_edit_row_in N;
  spells_constraint = is_constraint_row_in N;
}

abbrev pub old_lines : LineManner
old_lines = lines_in decimal_notation

abbrev pub old_manner : Manner
old_manner = own_manner old_lines [] no_ground

abbrev pub text_of : Record → List ℕ
text_of = written_in old_manner

abbrev pub read_text : List ℕ → Answer
read_text = read_in old_manner

-- "a 32-bit value": what every value has that is stored in 32 bits
unfoldable pub values_fit : Record → Bool
values_fit R = all (λ e. fits_word (cell (edit_row e) 4)) R.edits

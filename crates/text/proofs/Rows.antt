-- Lines in a lawful notation are lawful; in decimal each row in range whose value fits 32 bits has a line of its own. Assumes nothing.
use mathlib.Core.Path.{◌≡◌, refl, sym, subst}
use mathlib.Core.Bool.{true}
use mathlib.Core.List.{List, [], ◌∷◌}
use Prim.Native.Nat.{ℕ, ◌≤◌, ◌<◌}
use native.Mathlib.Omega.{arith}
use borrow.Author.Tests.{eq-eqb, lt-ltb}
use lib.ListN.{length, get_or}
use Rattle.std.specs.Prelude.{Result, Ok, Err}
use Rattle.lists.specs.Lists.{all}
use Rattle.lists.proofs.Logic.{has-map, has-mapped, all-has, all-by}
use Rattle.record.specs.declared.Field.{Field}
use Rattle.record.specs.declared.Field.TheVariants.{Id, Size, Erase, Page}
use Rattle.record.specs.declared.Body.{Body}
use Rattle.record.specs.declared.Body.TheVariants.{Insert, Set, Remove}
use Rattle.record.specs.Record.{Record}
use Rattle.record_rows.specs.row.Row.{Row, cell, name_cell, place_cell, value_cell, name_limit, place_limit, edit_in_range, edit_of, constraint_in_range, field_number, body_cells, edit_row, constraint_row}
use Rattle.record_rows.proofs.row.Cells.{edit-in-range, edit-back, constraint-in-range, name-small, constraint-bounds}
use Rattle.record_tables.specs.Table.{edit_rows, constraint_rows}
use Rattle.record_tables.specs.Checked.{Checked}
use Rattle.refusals.specs.declared.Refusal.{Refusal}
use Rattle.refusals.specs.declared.Refusal.TheVariants.{NotInForm, OutOfRange}
use Rattle.text_forms.specs.Spelling.{Notation, number_spelling, rule_words, field_words, decimal_notation}
use Rattle.text_forms.proofs.Lawful.{LawfulNotation, decimal-lawful}
use Rattle.text_lines.specs.declared.Line.{Line}
use Rattle.text_lines.specs.declared.Line.TheVariants.{Edit, Constraint}
use Rattle.text_lines.specs.Line.{fits_word, line_read_in, line_limit}
use Rattle.text_lines.specs.Row.{body_in_form, is_edit_row_in, is_constraint_row_in, is_edit_row, is_constraint_row}
use Rattle.text_lines.proofs.Says.{cell-fits}
use Rattle.text_lines.proofs.RoundTrip.{edit-in-form-parts, FaithfulIn, line-back-in, Saying, fault-one, fault-two, an-edit, a-constraint, line-saying-in, edit-line-read-in, constraint-line-read-in, edit-line-first-in, constraint-line-first-in}
use Rattle.text.specs.Text.{lines_in, old_lines, values_fit}
use Rattle.text.proofs.Manners.{SaidBack, LawfulLines}

module _ (N : Notation) where
  said-back : (said : Result Line Refusal) (line : List ℕ) → FaithfulIn N said line → Saying said → SaidBack (lines_in N) said line
  said-back (Ok (Edit row)) line f s = f
  said-back (Ok (Constraint row)) line f s = f
  said-back (Err refusal) line f (fault-one e) = let n : refusal ≡ NotInForm = cc in rw n (omega arith)
  said-back (Err refusal) line f (fault-two e) = let n : refusal ≡ OutOfRange = cc in rw n (omega arith)
  said-back (Err refusal) line f (an-edit row e) = let z : ⊥ = cc in absurd z
  said-back (Err refusal) line f (a-constraint row e) = let z : ⊥ = cc in absurd z

  long-line : (line : List ℕ) → line_limit < length line → line_read_in N line ≡ Err NotInForm
  unfolding line_read_in
  long-line line h = rw (lt-ltb line_limit (length line) h)

pub lines-lawful : {N : Notation} → LawfulNotation N → LawfulLines (lines_in N)
lines-lawful {N} L = record {
  edit-first = edit-line-first-in L;
  constraint-first = λ row rest h. constraint-line-first-in L row rest;
  edit-read = edit-line-read-in L;
  constraint-read = constraint-line-read-in L;
  said-back = λ line. said-back N (line_read_in N line) line (line-back-in L line) (line-saying-in N line);
  too-long = long-line N;
}

pub old-lines-lawful : LawfulLines old_lines
old-lines-lawful = lines-lawful decimal-lawful

-- a row in range whose value fits 32 bits has a line of its own
small : (n m : ℕ) → n < m → m ≤ 4294967296 → fits_word n ≡ true
small n m h l = lt-ltb n 4294967296 (omega arith)

three-fit : (row : List ℕ) → length row ≡ 3 → fits_word (get_or row 0 0) ≡ true → fits_word (get_or row 1 0) ≡ true → fits_word (get_or row 2 0) ≡ true → all fits_word row ≡ true
unfolding all
three-fit [] l a b c = absurd (omega arith)
three-fit (v ∷ []) l a b c = absurd (omega arith)
three-fit (v ∷ w ∷ []) l a b c = absurd (omega arith)
three-fit (v ∷ w ∷ x ∷ []) l a b c = rw (a, b, c)
three-fit (v ∷ w ∷ x ∷ y ∷ row) l a b c = absurd (omega arith)

field-known : (f : Field) → field_number f < 4
field-known Id = omega arith
field-known Size = omega arith
field-known Erase = omega arith
field-known Page = omega arith

row-in-form : (n : ℕ) (b : Body) → fits_word n ≡ true → fits_word (place_cell (n ∷ body_cells b)) ≡ true → fits_word (value_cell (n ∷ body_cells b)) ≡ true → is_edit_row (n ∷ body_cells b) ≡ true
unfolding is_edit_row_in body_in_form decimal_notation number_spelling field_words all
row-in-form n (Insert place) x y z = rw (x, y)
row-in-form n (Set place field value) x y z =
    let k = field-known field in rw (x, y, z, small (field_number field) 4 k (omega arith), lt-ltb (field_number field) 4 k)
row-in-form n (Remove place) x y z = rw (x, y)

edit-in-form : (row : Row) → edit_in_range row ≡ true → fits_word (value_cell row) ≡ true → is_edit_row row ≡ true
unfolding edit_row
edit-in-form row h v =
    let r = edit-in-range row h in
    subst (λ (l : Row). fits_word (name_cell l) ≡ true → fits_word (place_cell l) ≡ true → fits_word (value_cell l) ≡ true → is_edit_row l ≡ true) (edit-back row h) (row-in-form (edit_of row).name (edit_of row).body)
    (small (name_cell row) name_limit (name-small (name_cell row) r.name) (omega arith)) (small (place_cell row) place_limit r.place (omega arith)) v

constraint-in-form : (row : Row) → constraint_in_range row ≡ true → is_constraint_row row ≡ true
unfolding is_constraint_row_in decimal_notation number_spelling rule_words
constraint-in-form row h =
    let r = constraint-in-range row h in
    let b = constraint-bounds row (sym h) refl in
    let a : all fits_word row ≡ true = three-fit row r.wide (small (cell row 0) 2304 (b.0) (omega arith)) (small (cell row 1) 3 b.1 (omega arith)) (small (cell row 2) 2304 b.2 (omega arith)) in
    rw (eq-eqb (length row) 3 r.wide, a, lt-ltb (cell row 1) 3 b.1)

-- and a row in form has a value that fits
value-fits : (row : Row) → is_edit_row row ≡ true → fits_word (cell row 4) ≡ true
value-fits row h = cell-fits row 4 (edit-in-form-parts decimal_notation row h).words

-- so each row of a checked record whose values fit
module _ (R : Record) where
  pub constraint-lines : Checked R → all is_constraint_row (constraint_rows R) ≡ true
  constraint-lines k =
      all-by is_constraint_row (constraint_rows R) (λ x m. has-mapped constraint_row x R.constraints m
      (λ c n q. rw q (constraint-in-form (constraint_row c) (all-has (λ c. constraint_in_range (constraint_row c)) R.constraints k.constraintrange c n))))

  pub edit-lines : Checked R → values_fit R ≡ true → all is_edit_row (edit_rows R) ≡ true
  unfolding values_fit
  edit-lines k v =
      all-by is_edit_row (edit_rows R) (λ x m. has-mapped edit_row x R.edits m
      (λ e n q. rw q (edit-in-form (edit_row e) (all-has (λ e. edit_in_range (edit_row e)) R.edits k.editrange e n) (all-has (λ e. fits_word (cell (edit_row e) 4)) R.edits v e n))))

  -- and where each has a line, the values fit
  pub lines-values : all is_edit_row (edit_rows R) ≡ true → values_fit R ≡ true
  unfolding values_fit
  lines-values f = all-by (λ e. fits_word (cell (edit_row e) 4)) R.edits (λ e m. value-fits (edit_row e) (all-has is_edit_row (edit_rows R) f (edit_row e) (has-map edit_row e R.edits m)))

-- Document 01, "Text": one line to an edit or a constraint, written and read in a notation. Assumes nothing.
use Rattle.std.specs.Prelude.{ℕ, zero, suc, Bool, cond, List, [], ◌∷◌, ltb, eqb, length, get_or, Result, Ok, Err}
use Rattle.std.proofs.Math.Option.{Option, none, some}
use Rattle.lists.specs.Lists.{all}
use Rattle.text_forms.specs.Spelling.{bytes, Notation, decimal_notation}
use Rattle.text_forms.specs.Form.{fill_in, taken_in}
use Rattle.refusals.specs.declared.Refusal.{Refusal}
use Rattle.refusals.specs.declared.Refusal.TheVariants.{NotInForm, OutOfRange}
use Rattle.refusals.specs.Numbers.{number_of}
use Rattle.text_lines.specs.declared.Line.{Line}
use Rattle.text_lines.specs.declared.Line.TheVariants.{Edit, Constraint}

-- An edit row: name, kind, place, field, value. A constraint row: left, rule, right.
abbrev pub insert_kind : ℕ
insert_kind = 0

abbrev pub set_kind : ℕ
set_kind = 1

abbrev pub remove_kind : ℕ
remove_kind = 2

-- The forms: an edit's by its kind, where a kind that is none of these has none, and a constraint's.
unfoldable pub edit_form : ℕ → List ℕ
edit_form zero = bytes "edit=@ do=insert chip=#\n"
edit_form (suc zero) = bytes "edit=@ do=set chip=# field=% value=#\n"
edit_form (suc (suc zero)) = bytes "edit=@ do=remove chip=#\n"
edit_form (suc (suc (suc n))) = []

unfoldable pub constraint_form : List ℕ
constraint_form = bytes "left=@ rule=! right=@\n"

-- A form with the row that its numbers say; a number that it has not is 0.
pub record Shape : Type 0 where
  pub form : List ℕ
  pub says : List ℕ → Line

abbrev pub edit_shape : ℕ → Shape
edit_shape kind = record { form = edit_form kind; says = λ ns. Edit (get_or ns 0 0 ∷ kind ∷ get_or ns 1 0 ∷ get_or ns 2 0 ∷ get_or ns 3 0 ∷ []) }

abbrev pub constraint_shape : Shape
constraint_shape = record { form = constraint_form; says = λ ns. Constraint (get_or ns 0 0 ∷ get_or ns 1 0 ∷ get_or ns 2 0 ∷ []) }

unfoldable pub shapes : List Shape
shapes = edit_shape insert_kind ∷ edit_shape set_kind ∷ edit_shape remove_kind ∷ constraint_shape ∷ []

-- the numbers of a row, as its form takes them
abbrev pub edit_numbers : List ℕ → List ℕ
edit_numbers row = get_or row 0 0 ∷ get_or row 2 0 ∷ get_or row 3 0 ∷ get_or row 4 0 ∷ []

abbrev pub constraint_numbers : List ℕ → List ℕ
constraint_numbers row = get_or row 0 0 ∷ get_or row 1 0 ∷ get_or row 2 0 ∷ []

abbrev pub fits_word : ℕ → Bool
fits_word n = ltb n 4294967296

abbrev pub word_read : ℕ → Result ℕ Refusal
word_read n = cond (fits_word n) (Ok n) (Err OutOfRange)

-- refused where it is not in this form, or a number does not fit 32 bits
abbrev pub said : Shape → Option (List ℕ) → Result Line Refusal
said shape none = Err NotInForm
said shape (some ns) = cond (all fits_word ns) (Ok (shape.says ns)) (Err OutOfRange)

-- what is said first unless that is not in form
abbrev pub or_else : Result Line Refusal → Result Line Refusal → Result Line Refusal
or_else first second = cond (eqb (number_of first) 1) second first

-- a line has at most 100 bytes before its end
abbrev pub line_limit : ℕ
line_limit = 101

module _ (N : Notation) where
  -- The writer.
  unfoldable pub edit_line_in : List ℕ → List ℕ
  edit_line_in row = fill_in N (edit_form (get_or row 1 0)) (edit_numbers row)

  unfoldable pub constraint_line_in : List ℕ → List ℕ
  constraint_line_in row = fill_in N constraint_form (constraint_numbers row)

  -- The reader.
  unfoldable pub read_as : Shape → List ℕ → Result Line Refusal
  read_as shape s = said shape (taken_in N shape.form s)

  unfoldable pub read_by : List Shape → List ℕ → Result Line Refusal
  read_by [] s = Err NotInForm
  read_by (shape ∷ rest) s = or_else (read_as shape s) (read_by rest s)

  unfoldable pub line_read_in : List ℕ → Result Line Refusal
  line_read_in s = cond (ltb line_limit (length s)) (Err NotInForm) (read_by shapes s)

-- In decimal.
abbrev pub edit_line : List ℕ → List ℕ
edit_line = edit_line_in decimal_notation

abbrev pub constraint_line : List ℕ → List ℕ
constraint_line = constraint_line_in decimal_notation

abbrev pub line_read : List ℕ → Result Line Refusal
line_read = line_read_in decimal_notation

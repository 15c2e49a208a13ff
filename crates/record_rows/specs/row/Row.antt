-- Document 01, "The record": edits and constraints as rows of numbers, the range of each cell, and the edit or constraint that a row in range is. Assumes nothing.
use Rattle.std.specs.Prelude.{Bool, true, false, cond, ◌&&◌, ◌||◌, List, [], ◌∷◌, ℕ, zero, suc, ◌/◌, ◌%◌, leb, ltb, eqb, length, get_or, Option, Some, None, is_some, unwrap_or, option_map}
use Rattle.record.specs.declared.Field.{Field}
use Rattle.record.specs.declared.Field.TheVariants.{Id, Size, Erase, Page}
use Rattle.record.specs.declared.Body.{Body}
use Rattle.record.specs.declared.Body.TheVariants.{Insert, Set, Remove}
use Rattle.record.specs.declared.Edit.{Edit}
use Rattle.record.specs.declared.Constraint.{Constraint}
use Rattle.record.specs.Stored.{filler_edit, filler_constraint}

abbrev pub Row : Type 0
Row = List ℕ

abbrev pub cell : Row → ℕ → ℕ
cell row i = get_or row i 0

-- the cells of an edit's row
abbrev pub edit_width : ℕ
edit_width = 5

abbrev pub name_cell : Row → ℕ
name_cell row = cell row 0

abbrev pub kind_cell : Row → ℕ
kind_cell row = cell row 1

abbrev pub place_cell : Row → ℕ
place_cell row = cell row 2

abbrev pub field_cell : Row → ℕ
field_cell row = cell row 3

abbrev pub value_cell : Row → ℕ
value_cell row = cell row 4

-- the cells of a constraint's row, whatever their numbers
abbrev pub constraint_width : ℕ
constraint_width = 3

abbrev pub constraint_cells : Row → Constraint
constraint_cells row = record { left = cell row 0; rule = cell row 1; right = cell row 2 }

-- two rows are equal
unfoldable pub same : Row → Row → Bool
same [] [] = true
same [] (y ∷ b) = false
same (x ∷ a) [] = false
same (x ∷ a) (y ∷ b) = eqb x y && same a b

-- benches are 1 to this one
abbrev pub bench_limit : ℕ
bench_limit = 8

-- a name: bench × 256 + sequence, sequence 1 to 255
unfoldable pub is_name : ℕ → Bool
is_name n = leb 1 (n / 256) && (leb (n / 256) bench_limit && leb 1 (n % 256))

-- names are below it
abbrev pub name_limit : ℕ
name_limit = 2304

-- chip places are below it
abbrev pub place_limit : ℕ
place_limit = 64

-- rules are below it
abbrev pub rule_limit : ℕ
rule_limit = 3

-- the field with this number
abbrev pub field_of : ℕ → Option Field
field_of zero = Some Id
field_of (suc zero) = Some Size
field_of (suc (suc zero)) = Some Erase
field_of (suc (suc (suc zero))) = Some Page
field_of (suc (suc (suc (suc n)))) = None

-- the body with these cells: kind 0 insert, 1 set, 2 remove; the cells that a kind does not use are 0
abbrev pub body_of : ℕ → ℕ → ℕ → ℕ → Option Body
body_of zero place field value = cond (eqb field 0 && eqb value 0) (Some (Insert place)) None
body_of (suc zero) place field value = option_map (λ f. Set place f value) (field_of field)
body_of (suc (suc zero)) place field value = cond (eqb field 0 && eqb value 0) (Some (Remove place)) None
body_of (suc (suc (suc n))) place field value = None

abbrev pub edit_with : ℕ → Body → Edit
edit_with name body = record { name = name; body = body }

-- the edit of a row; none where a cell is outside its range
unfoldable pub decoded_edit : Row → Option Edit
decoded_edit row =
    cond (eqb (length row) edit_width && (is_name (name_cell row) && ltb (place_cell row) place_limit))
    (option_map (edit_with (name_cell row)) (body_of (kind_cell row) (place_cell row) (field_cell row) (value_cell row))) None

unfoldable pub edit_in_range : Row → Bool
edit_in_range row = is_some (decoded_edit row)

-- of a row out of range the filler
unfoldable pub edit_of : Row → Edit
edit_of row = unwrap_or (decoded_edit row) filler_edit

-- a side of a constraint: a name or 0
unfoldable pub is_side : ℕ → Bool
is_side n = eqb n 0 || is_name n

unfoldable pub constraint_in_range : Row → Bool
constraint_in_range row = eqb (length row) constraint_width && (is_side (constraint_cells row).left && (ltb (constraint_cells row).rule rule_limit && is_side (constraint_cells row).right))

-- the constraint that a row in range is
unfoldable pub constraint_of : Row → Constraint
constraint_of row = cond (constraint_in_range row) (constraint_cells row) filler_constraint

-- the row of an edit, and of a constraint
abbrev pub field_number : Field → ℕ
field_number Id = 0
field_number Size = 1
field_number Erase = 2
field_number Page = 3

abbrev pub body_cells : Body → Row
body_cells (Insert place) = 0 ∷ place ∷ 0 ∷ 0 ∷ []
body_cells (Set place field value) = 1 ∷ place ∷ field_number field ∷ value ∷ []
body_cells (Remove place) = 2 ∷ place ∷ 0 ∷ 0 ∷ []

unfoldable pub edit_row : Edit → Row
edit_row e = e.name ∷ body_cells e.body

unfoldable pub constraint_row : Constraint → Row
constraint_row c = c.left ∷ c.rule ∷ c.right ∷ []

-- Inner: document 01, "Text": the rows that have a line of their own in a notation. Names and places have ranges besides. Assumes nothing.
use Rattle.std.specs.Prelude.{ℕ, zero, suc, Bool, false, ◌&&◌, List, ltb, eqb, length, get_or}
use Rattle.lists.specs.Lists.{all}
use Rattle.text_forms.specs.Spelling.{rule_words, Notation, decimal_notation}
use Rattle.text_lines.specs.Line.{fits_word}

module _ (N : Notation) where
  -- kind, field and value: a known field, and 0 where insert and remove have nothing
  unfoldable pub body_in_form : ℕ → ℕ → ℕ → Bool
  body_in_form zero field value = eqb field 0 && eqb value 0
  body_in_form (suc zero) field value = ltb field (length N.fields)
  body_in_form (suc (suc zero)) field value = eqb field 0 && eqb value 0
  body_in_form (suc (suc (suc kind))) field value = false

  -- numbers of 32 bits, and names that are spelled
  unfoldable pub is_edit_row_in : List ℕ → Bool
  is_edit_row_in row = eqb (length row) 5 && (all fits_word row && (N.names.spells (get_or row 0 0) && body_in_form (get_or row 1 0) (get_or row 3 0) (get_or row 4 0)))

  unfoldable pub is_constraint_row_in : List ℕ → Bool
  is_constraint_row_in row =
      eqb (length row) 3 && (all fits_word row && (N.names.spells (get_or row 0 0) && (N.names.spells (get_or row 2 0) && ltb (get_or row 1 0) (length rule_words))))

abbrev pub is_edit_row : List ℕ → Bool
is_edit_row = is_edit_row_in decimal_notation

abbrev pub is_constraint_row : List ℕ → Bool
is_constraint_row = is_constraint_row_in decimal_notation

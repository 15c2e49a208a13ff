-- Inner: the pieces in which a line is written: words, each with the name or number after it. Assumes nothing.
use Rattle.std.specs.Prelude.{ℕ, List, [], ◌∷◌, ◌++◌, get_or}
use Rattle.text_forms.specs.decimal.Decimal.{decimal}
use Rattle.text_forms.specs.Spelling.{bytes, rule_words, Notation}

-- with the end of the line
abbrev pub line_ended : List ℕ → List ℕ
line_ended text = text ++ (10 ∷ [])

-- the words of a constraint's line between its names
unfoldable pub rule_part : ℕ → List ℕ
rule_part rule = bytes " rule=" ++ (get_or rule_words rule [] ++ bytes " right=")

abbrev pub field_part : List ℕ → ℕ → List ℕ
field_part word value = (bytes " field=" ++ word) ++ line_ended (bytes " value=" ++ decimal value)

abbrev pub setting_part : ℕ → List ℕ → ℕ → List ℕ
setting_part place word value = (bytes " do=set chip=" ++ decimal place) ++ field_part word value

module _ (N : Notation) where
  abbrev pub word_named : List ℕ → ℕ → List ℕ
  word_named word name = word ++ N.names.write name

  -- the lines of edits that set nothing, by the words after the name, and of those that set a field
  abbrev pub unset_pieces : List ℕ → ℕ → ℕ → List ℕ
  unset_pieces word name place = word_named (bytes "edit=") name ++ line_ended (word ++ decimal place)

  abbrev pub set_pieces : ℕ → ℕ → ℕ → ℕ → List ℕ
  set_pieces name place field value = word_named (bytes "edit=") name ++ setting_part place (get_or N.fields field []) value

  abbrev pub rule_pieces : ℕ → ℕ → ℕ → List ℕ
  rule_pieces left rule right = word_named (bytes "left=") left ++ line_ended (word_named (rule_part rule) right)

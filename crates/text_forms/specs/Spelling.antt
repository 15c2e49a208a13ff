-- Document 01, "Text": how a line spells a number, an edit's name, yes or no, a rule and a field. Assumes nothing.
use Rattle.std.specs.Prelude.{ℕ, Bool, true, false, cond, not, ◌&&◌, List, [], ◌∷◌, length, get_or, ltb, eqb, Option, Some, None}
use Rattle.std.specs.List.{position_or_len}
use Prim.Native.Char.{code}
use Prim.Native.String.{String, [] as «nothing», ◌∷◌ as ◌then◌}
use Rattle.lists.specs.Lists.{any}
use Rattle.text_forms.specs.decimal.Decimal.{decimal, is_digit, numeral_size, numeral_value, saturated}
use Rattle.text_forms.specs.declared.decimal.Numeral.{Numeral}

-- the bytes of a quoted text
unfoldable pub bytes : String → List ℕ
bytes «nothing» = []
bytes (c then s) = code c ∷ bytes s

pub record Spelling : Type 0 where
  -- the writer
  pub write : ℕ → List ℕ
  -- the reader: how many bytes at the start of a text spell a number (0 where they do not), and which
  pub size : List ℕ → ℕ
  pub value : List ℕ → ℕ
  -- the numbers that have a spelling of their own
  pub spells : ℕ → Bool
  -- the bytes that a spelling may begin with, and those that no spelling goes on with
  pub begins : ℕ → Bool
  pub stops : ℕ → Bool

-- what the code keeps of a spelled number, where there is one
abbrev pub numeral_of : Spelling → List ℕ → Option Numeral
numeral_of S s = cond (eqb (S.size s) 0) None (Some (record { size = S.size s; value = saturated (S.value s) }))

-- a number
unfoldable pub number_spelling : Spelling
number_spelling = record { write = decimal; size = numeral_size; value = numeral_value; spells = λ n. true; begins = is_digit; stops = λ b. not (is_digit b) }

unfoldable pub starts_with : List ℕ → List ℕ → Bool
starts_with [] s = true
starts_with (c ∷ word) [] = false
starts_with (c ∷ word) (x ∷ s) = eqb c x && starts_with word s

-- the first of some words that a text starts with, by its place; past them all where it starts with none
unfoldable pub word_place : List (List ℕ) → List ℕ → ℕ
word_place words s = position_or_len (λ word. starts_with word s) words

-- a number as one of some words, the first for 0; a number past them has none
unfoldable pub word_spelling : List (List ℕ) → Spelling
word_spelling words = record {
  write = λ n. get_or words n [];
  size = λ s. length (get_or words (word_place words s) []);
  value = word_place words;
  spells = λ n. ltb n (length words);
  begins = λ b. any (starts_with (b ∷ [])) words;
  stops = λ b. true;
}

-- no for 0 and yes for 1
unfoldable pub answer_words : List (List ℕ)
answer_words = bytes "no" ∷ bytes "yes" ∷ []

-- the rules of constraints, and the fields of entries
unfoldable pub rule_words : List (List ℕ)
rule_words = bytes "notafter" ∷ bytes "enables" ∷ bytes "noncommuting" ∷ []

unfoldable pub field_words : List (List ℕ)
field_words = bytes "id" ∷ bytes "size" ∷ bytes "erase" ∷ bytes "page" ∷ []

-- What a text may spell in a way of its own: the names of edits, and which fields there are.
pub record Notation : Type 0 where
  pub names : Spelling
  pub fields : List (List ℕ)

unfoldable pub decimal_notation : Notation
decimal_notation = record { names = number_spelling; fields = field_words }

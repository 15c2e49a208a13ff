-- Document 01, "Text": forms. A form is a quoted text in which a mark stands for a number: # in decimal, @ an edit's name, ? yes or no, % a field and
-- ! a rule. Assumes nothing.
use Rattle.std.specs.Prelude.{ℕ, Bool, false, cond, ◌||◌, List, [], ◌∷◌, ◌++◌, map, eqb, get_or, take, drop, replicate, Option as Answer, Some, None}
use Rattle.std.proofs.Math.Option.{Option, none, some}
use Rattle.text_forms.specs.decimal.Decimal.{saturated}
use Rattle.text_forms.specs.Spelling.{Spelling, number_spelling, word_spelling, answer_words, rule_words, Notation, decimal_notation}

-- the bytes of # @ ? % !
unfoldable pub is_mark : ℕ → Bool
is_mark c = eqb c 35 || (eqb c 64 || (eqb c 63 || (eqb c 37 || eqb c 33)))

unfoldable pub words_in : Notation → ℕ → List (List ℕ)
words_in N mark = cond (eqb mark 37) N.fields (cond (eqb mark 33) rule_words answer_words)

unfoldable pub spelling_in : Notation → ℕ → Spelling
spelling_in N mark = cond (eqb mark 35) number_spelling (cond (eqb mark 64) N.names (word_spelling (words_in N mark)))

-- The writer: the text of a form with these numbers, one for each mark; a number that is not there is 0.
unfoldable pub fill_in : Notation → List ℕ → List ℕ → List ℕ
fill_in N [] ns = []
fill_in N (c ∷ form) ns = cond (is_mark c) ((spelling_in N c).write (get_or ns 0 0) ++ fill_in N form (drop 1 ns)) (c ∷ fill_in N form ns)

abbrev pub number_before : ℕ → Option (List ℕ) → Option (List ℕ)
number_before n none = none
number_before n (some ns) = some (n ∷ ns)

abbrev pub begins_with : ℕ → List ℕ → Bool
begins_with c [] = false
begins_with c (x ∷ s) = eqb c x

-- The reader: the numbers with which the form gives a text, where it does.
unfoldable pub taken_in : Notation → List ℕ → List ℕ → Option (List ℕ)
taken_in N [] [] = some []
taken_in N [] (x ∷ s) = none
taken_in N (c ∷ form) s =
    let S = spelling_in N c in
    cond (is_mark c)
    (cond (eqb (S.size s) 0) none (number_before (S.value s) (taken_in N form (drop (S.size s) s))))
    (cond (begins_with c s) (taken_in N form (drop 1 s)) none)

-- The same in decimal, as all that is no text to be exchanged.
abbrev pub spelling : ℕ → Spelling
spelling = spelling_in decimal_notation

abbrev pub fill : List ℕ → List ℕ → List ℕ
fill = fill_in decimal_notation

abbrev pub taken : List ℕ → List ℕ → Option (List ℕ)
taken = taken_in decimal_notation

-- so many numbers of a form count
abbrev pub number_places : ℕ
number_places = 8

-- What the code answers: the first numbers, cut off at 2^32, and 0 past those.
abbrev pub filled_of : Option (List ℕ) → Answer (List ℕ)
filled_of none = None
filled_of (some ns) = Some (take number_places (map saturated ns ++ replicate number_places 0))

-- Document 01, "Text": numbers in decimal without leading zeros, as bytes. Assumes nothing.
use Rattle.std.specs.Prelude.{ℕ, zero, suc, ◌+◌, ◌*◌, ◌-◌, ◌/◌, ◌%◌, min, Bool, true, false, cond, not, List, [], ◌∷◌, ◌++◌, ltb, eqb, length, Option, Some, None}
use Rattle.text_forms.specs.declared.decimal.Numeral.{Numeral}

-- the decimal digits of n, the most significant first; the first argument bounds how many there are
unfoldable pub digits_in : ℕ → ℕ → List ℕ
digits_in zero n = []
digits_in (suc bound) n = cond (ltb n 10) ((48 + n) ∷ []) (digits_in bound (n / 10) ++ ((48 + n % 10) ∷ []))

-- the writer: n in decimal
unfoldable pub decimal : ℕ → List ℕ
decimal n = digits_in (suc n) n

abbrev pub is_digit : ℕ → Bool
is_digit b = cond (ltb b 48) false (ltb b 58)

-- the digits that a text starts with
unfoldable pub digit_run : List ℕ → List ℕ
digit_run [] = []
digit_run (c ∷ s) = cond (is_digit c) (c ∷ digit_run s) []

-- the number that digits spell, after those that spell v
unfoldable pub value_from : ℕ → List ℕ → ℕ
value_from v [] = v
value_from v (c ∷ s) = value_from (v * 10 + (c - 48)) s

-- some digit, and no zero before another
abbrev pub is_numeral : List ℕ → Bool
is_numeral [] = false
is_numeral (c ∷ []) = true
is_numeral (c ∷ d ∷ s) = not (eqb c 48)

-- The reader: how many bytes the numeral takes that a text starts with (0 where it starts with none), and the number that it spells.
unfoldable pub numeral_size : List ℕ → ℕ
numeral_size s = cond (is_numeral (digit_run s)) (length (digit_run s)) 0

unfoldable pub numeral_value : List ℕ → ℕ
numeral_value s = value_from 0 (digit_run s)

-- a number as the code keeps it: one that does not fit 32 bits is 2^32
abbrev pub saturated : ℕ → ℕ
saturated n = min n 4294967296

abbrev pub numeral_read : List ℕ → Option Numeral
numeral_read s = cond (eqb (numeral_size s) 0) None (Some (record { size = numeral_size s; value = saturated (numeral_value s) }))

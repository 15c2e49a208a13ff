-- Document 02, A9: how united the benches are, from the answers of up to 200 elections. A share is the greatest group's part of the whole roll's weight, in the field's term its support.
-- Whole numbers of any size. Assumes nothing.
use Rattle.std.specs.Prelude.{◌≡◌, Bool, true, false, not, ◌&&◌, ◌||◌, cond, ◌≢◌, List, [], ◌∷◌, ◌++◌, map, ℕ, suc, ◌+◌, ◌*◌, leb, ltb, eqb, length, get_or, Result, Ok, Err}
use Rattle.lists.specs.Lists.{filter}
use Rattle.record_rows.specs.grounds.Ground.{◌given◌, ◌orelse◌}
use Rattle.fraction.specs.declared.Fraction.{Fraction}
use Rattle.fraction.specs.Fraction.{lowest_terms, sum_of, no_fraction, mean, least_fraction, greatest_fraction}
use Rattle.fraction.specs.Bounded.{fits64}
use Rattle.unity_table.specs.declared.Weights.{Weights}
use Rattle.refusals.specs.Numbers.{number}
use Rattle.unity_table.specs.declared.Unity.{Unity}
use Rattle.unity_table.specs.declared.RowFault.{RowFault}

-- a row of the lent table: greatest group, silent weight, total
abbrev pub weights_of : List ℕ → Weights
weights_of row = record { greatest = get_or row 0 0; silent = get_or row 1 0; total = get_or row 2 0 }

abbrev pub election_limit : ℕ
election_limit = 200

-- eight benches of the greatest weight, 65,535
abbrev pub total_limit : ℕ
total_limit = 524280

-- elections with total 0 are counted on their own and enter nothing else
abbrev pub is_empty : Weights → Bool
is_empty a = eqb a.total 0

abbrev pub is_won : Weights → Bool
is_won a = ltb a.total (2 * a.greatest)

abbrev pub share_of : Weights → Fraction
share_of a = lowest_terms a.greatest a.total

unfoldable pub shares : List Weights → List Fraction
shares l = map share_of (filter (λ a. not (is_empty a)) l)

-- 2: greatest group and silent weight together exceed the total, or the total exceeds its limit
unfoldable pub out_of_range : Weights → Bool
out_of_range a = ltb a.total (a.greatest + a.silent) || ltb total_limit a.total

-- 17: of the rows so far the least common denominator, or the numerator of the sum over it, does not fit 64 bits; or at the last row the mean's denominator
unfoldable pub too_wide : List Weights → Bool → Bool
too_wide l last =
    not (fits64 (sum_of (shares l)).denominator) || (not (fits64 (sum_of (shares l)).numerator) || (last && not (fits64 (mean (shares l)).denominator)))

-- the lowest number that applies to an answer below those above it
unfoldable pub weights_fault : List Weights → Weights → Bool → ℕ
weights_fault above a last = 2 given out_of_range a orelse 3 given leb election_limit (length above) orelse 17 given too_wide (above ++ (a ∷ [])) last

-- a number and its row, counted from 1; number 0 is no fault
pub record Fault : Type 0 where
  pub number : ℕ
  pub row : ℕ

-- of a row with these rows after it
abbrev pub is_last : {A : Type 0} → List A → Bool
is_last [] = true
is_last (x ∷ rest) = false

-- the first faulty row decides; f is the number of a row below those above it, and is told whether it is the last one
unfoldable pub deciding_fault : {A : Type 0} → (List A → A → Bool → ℕ) → List A → List A → Fault
deciding_fault f above [] = record { number = 0; row = 0 }
deciding_fault f above (x ∷ rest) =
    cond (eqb (f above x (is_last rest)) 0) (deciding_fault f (above ++ (x ∷ [])) rest) (record { number = f above x (is_last rest); row = suc (length above) })

-- What that means: no row has a fault; or one has this fault, and none above it has any.
abbrev pub NoneFaulty : {A : Type 0} → (List A → A → Bool → ℕ) → List A → Type 0
NoneFaulty {A} f l = (above : List A) (x : A) (rest : List A) → l ≡ above ++ (x ∷ rest) → f above x (is_last rest) ≡ 0

pub record FirstFaulty {A : Type 0} (f : List A → A → Bool → ℕ) (l : List A) (fault : Fault) : Type 0 where
  pub above : List A
  pub faulty : A
  pub rest : List A
  pub split : l ≡ above ++ (faulty ∷ rest)
  pub before : (p : List A) (x : A) (q : List A) → above ≡ p ++ (x ∷ q) → f p x false ≡ 0
  pub number_is : fault.number ≡ f above faulty (is_last rest)
  pub some : fault.number ≢ 0
  pub row_is : fault.row ≡ suc (length above)

unfoldable pub count_by : (Weights → Bool) → List Weights → ℕ
count_by p l = length (filter p l)

-- what is answered: of a faulty table the number and the row, and every other part is 0
pub record UnityAnswer : Type 0 where
  pub number : ℕ
  pub row : ℕ
  pub mean : Fraction
  pub least : Fraction
  pub greatest : Fraction
  pub won : ℕ
  pub empty : ℕ

unfoldable pub summary : List Weights → UnityAnswer
summary l =
    record { number = 0; row = 0; mean = mean (shares l); least = least_fraction (shares l); greatest = greatest_fraction (shares l); won = count_by is_won l; empty = count_by is_empty l }

abbrev pub refused_unity : Fault → UnityAnswer
refused_unity f = record { number = f.number; row = f.row; mean = no_fraction; least = no_fraction; greatest = no_fraction; won = 0; empty = 0 }

abbrev pub unity_by : Fault → List Weights → UnityAnswer
unity_by f l = cond (eqb f.number 0) (summary l) (refused_unity f)

unfoldable pub unity_of : List Weights → UnityAnswer
unity_of l = unity_by (deciding_fault weights_fault [] l) l

-- what the code answers
abbrev pub fault_of : RowFault → Fault
fault_of f = record { number = number f.refusal; row = f.row }

abbrev pub answer_told : Result Unity RowFault → UnityAnswer
answer_told (Ok u) = record { number = 0; row = 0; mean = u.mean; least = u.least; greatest = u.greatest; won = u.won; empty = u.empty }
answer_told (Err f) = refused_unity (fault_of f)

-- Inner: the answers so far as the code holds them, one by one; Unity.antt says what is answered. Assumes nothing.
use Rattle.std.specs.Prelude.{◌≡◌, Bool, false, cond, ◌&&◌, ◌||◌, List, [], ◌∷◌, ◌++◌, ℕ, ◌+◌, ◌≤◌, ◌<◌, eqb, length, Option, Some, None, Result, Ok, Err}
use Rattle.fraction.specs.declared.Fraction.{Fraction}
use Rattle.fraction.specs.Fraction.{sum_of, mean, is_below, least_fraction, greatest_fraction}
use Rattle.fraction.specs.Bounded.{fits64, plus, bounded_fraction}
use Rattle.unity_table.specs.declared.Weights.{Weights}
use Rattle.unity_table.specs.declared.Summed.{Summed}
use Rattle.unity_table.specs.declared.Unity.{Unity}
use Rattle.unity_table.specs.declared.RowFault.{RowFault}
use Rattle.unity_table.specs.Unity.{election_limit, is_empty, is_won, share_of, shares, weights_fault, Fault, deciding_fault, count_by, unity_of, fault_of, answer_told}

-- no row is taken for the last one
abbrev pub running_fault : List Weights → Weights → Bool → ℕ
running_fault above a last = weights_fault above a false

abbrev pub running : List Weights → Fault
running l = deciding_fault running_fault [] l

unfoldable pub summed : List Weights → Summed
summed l =
    record { rows = length l; sum = sum_of (shares l); least = least_fraction (shares l); greatest = greatest_fraction (shares l); entered = length (shares l); won = count_by is_won l; empty = count_by is_empty l }

-- the state after rows without fault
pub record Open (s : Summed) (l : List Weights) : Type 0 where
  pub none : (running l).number ≡ 0
  pub is : s ≡ summed l

-- what some answers left
pub record Left (s : Summed) : Type 0 where
  pub answers : List Weights
  pub after : Open s answers

-- what some answers come to so far: their state, or their first fault
abbrev pub SummedTo : List Weights → Result Summed RowFault → Type 0
SummedTo l (Ok s) = Open s l
SummedTo l (Err f) = running l ≡ fault_of f

-- what an answer more has to leave, their mean, and what all of them come to
abbrev pub Adds : Summed → Weights → Result Summed RowFault → Type 0
Adds s a r = (l : List Weights) → Open s l → SummedTo (l ++ (a ∷ [])) r

abbrev pub Means : Summed → Option Fraction → Type 0
Means s r = (l : List Weights) → Open s l → r ≡ bounded_fraction (mean (shares l))

abbrev pub Ends : Summed → Result Unity RowFault → Type 0
Ends s r = (l : List Weights) → Open s l → answer_told r ≡ unity_of l

-- there is a place for one row more
pub record Room (s : Summed) : Type 0 where
  pub rows : s.rows < election_limit
  pub entered : s.entered ≤ s.rows
  pub won : s.won ≤ s.rows
  pub empty : s.empty ≤ s.rows
  pub divisor : 0 < s.sum.denominator

-- one row more, by the step that the code makes
abbrev pub with_empty : Summed → Summed
with_empty s = record { rows = s.rows + 1; sum = s.sum; least = s.least; greatest = s.greatest; entered = s.entered; won = s.won; empty = s.empty + 1 }

abbrev pub extreme : Summed → Bool → Fraction → Fraction → Fraction
extreme s before known share = cond (eqb s.entered 0 || before) share known

abbrev pub with_sum : Summed → Weights → Fraction → Fraction → Summed
with_sum s a share sum =
    record {
      rows = s.rows + 1;
      sum = sum;
      least = extreme s (is_below share s.least) s.least share;
      greatest = extreme s (is_below s.greatest share) s.greatest share;
      entered = s.entered + 1;
      won = s.won + cond (is_won a) 1 0;
      empty = s.empty;
    }

unfoldable pub with_share : Summed → Weights → Option Summed
with_share s a =
    let sum = plus s.sum (share_of a) in
    cond (fits64 sum.denominator && fits64 sum.numerator) (Some (with_sum s a (share_of a) sum)) None

abbrev pub united_answer : Summed → Fraction → Unity
united_answer s m = record { mean = m; least = s.least; greatest = s.greatest; won = s.won; empty = s.empty }

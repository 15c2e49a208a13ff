-- Document 02, A9: numbers of up to 64 bits, and what the code answers of a number or a fraction that may not fit. Assumes nothing.
use Rattle.std.specs.Prelude.{Bool, cond, ◌&&◌, ℕ, ◌+◌, ◌*◌, ◌/◌, ◌≤◌, ◌<◌, ltb, Option, Some, None}
use Rattle.fraction.specs.declared.Fraction.{Fraction}
use Rattle.fraction.specs.Divisor.{lcm}

-- 2^64, and the greatest number of 64 bits
abbrev pub limit64 : ℕ
limit64 = 18446744073709551616

abbrev pub greatest64 : ℕ
greatest64 = 18446744073709551615

abbrev pub fits64 : ℕ → Bool
fits64 n = ltb n limit64

-- the number where it fits
unfoldable pub bounded : ℕ → Option ℕ
bounded n = cond (fits64 n) (Some n) None

abbrev pub unbounded : Option Fraction
unbounded = None

unfoldable pub bounded_fraction : Fraction → Option Fraction
bounded_fraction f = cond (fits64 f.denominator && fits64 f.numerator) (Some f) unbounded

-- a sum with one fraction more, over the least common denominator of both
unfoldable pub plus : Fraction → Fraction → Fraction
plus f g =
    let d = lcm f.denominator g.denominator in
    record { numerator = f.numerator * (d / f.denominator) + g.numerator * (d / g.denominator); denominator = d }

-- what the code adds: denominators above 0, and a fraction of at most 1
pub record Addable (sum share : Fraction) : Type 0 where
  pub divisor : 0 < sum.denominator
  pub positive : 0 < share.denominator
  pub atmost : share.numerator ≤ share.denominator

-- Document 02, A9: common divisors and common multiples of whole numbers of any size. `a ∣ b` is the library's "a divides b". Assumes nothing.
use Rattle.std.specs.Prelude.{cond, ℕ, zero, suc, ◌*◌, ◌/◌, ◌%◌, eqb}
use Rattle.std.specs.Int.{◌∣◌}

-- The meanings. Of the numbers that divide both, the greatest is the one that all of them divide.
pub record GreatestCommonDivisor (a b g : ℕ) : Type 0 where
  pub left : g ∣ a
  pub right : g ∣ b
  pub greatest : (d : ℕ) → d ∣ a → d ∣ b → d ∣ g

-- Of the numbers that both divide, the least is the one that divides all of them.
pub record LeastCommonMultiple (a b m : ℕ) : Type 0 where
  pub left : a ∣ m
  pub right : b ∣ m
  pub least : (n : ℕ) → a ∣ n → b ∣ n → m ∣ n

-- How they are computed: Euclid's algorithm; the first argument bounds the number of its steps.
unfoldable pub gcd_in : ℕ → ℕ → ℕ → ℕ
gcd_in zero a b = a
gcd_in (suc bound) a b = cond (eqb b 0) a (gcd_in bound b (a % b))

unfoldable pub gcd : ℕ → ℕ → ℕ
gcd a b = gcd_in (suc b) a b

unfoldable pub lcm : ℕ → ℕ → ℕ
lcm a b = a / gcd a b * b

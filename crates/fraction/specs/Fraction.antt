-- Document 02, A9: fractions of two whole numbers of any size, lowest terms, and the sum and the mean of some. Assumes nothing.
use Rattle.std.specs.Prelude.{◌≡◌, Bool, false, cond, List, [], ◌∷◌, ℕ, ◌+◌, ◌*◌, ◌/◌, ◌<◌, ltb, length}
use Rattle.std.specs.Int.{◌∣◌}
use Rattle.lists.specs.Lists.{Has}
use Rattle.fraction.specs.declared.Fraction.{Fraction}
use Rattle.fraction.specs.Divisor.{gcd, lcm}

-- the fraction a over b without a common divisor
pub record LowestTerms (a b : ℕ) (f : Fraction) : Type 0 where
  pub coprime : gcd f.numerator f.denominator ≡ 1
  pub same : f.numerator * b ≡ a * f.denominator

unfoldable pub lowest_terms : ℕ → ℕ → Fraction
lowest_terms a b = record { numerator = a / gcd a b; denominator = b / gcd a b }

-- every denominator is above 0; every denominator divides a number
abbrev pub Positive : List Fraction → Type 0
Positive [] = Unit {0}
Positive (f ∷ rest) = (0 < f.denominator) × Positive rest

abbrev pub Divided : ℕ → List Fraction → Type 0
Divided n [] = Unit {0}
Divided n (f ∷ rest) = (f.denominator ∣ n) × Divided n rest

-- the least number that every denominator divides
pub record LeastCommonDenominator (l : List Fraction) (m : ℕ) : Type 0 where
  pub divided : Divided m l
  pub least : (n : ℕ) → Divided n l → m ∣ n

unfoldable pub common_denominator : List Fraction → ℕ
common_denominator [] = 1
common_denominator (f ∷ rest) = lcm f.denominator (common_denominator rest)

-- the numerator of their sum over a number that every denominator divides
unfoldable pub numerator_over : ℕ → List Fraction → ℕ
numerator_over d [] = 0
numerator_over d (f ∷ rest) = f.numerator * (d / f.denominator) + numerator_over d rest

-- the sum over the least common denominator, not in lowest terms
unfoldable pub sum_of : List Fraction → Fraction
sum_of l = record { numerator = numerator_over (common_denominator l) l; denominator = common_denominator l }

-- what stands where there is no fraction
abbrev pub no_fraction : Fraction
no_fraction = record { numerator = 0; denominator = 0 }

abbrev pub zero_fraction : Fraction
zero_fraction = record { numerator = 0; denominator = 1 }

-- the mean in lowest terms; of none it is 0/1
unfoldable pub mean : List Fraction → Fraction
mean [] = zero_fraction
mean (f ∷ rest) = lowest_terms (sum_of (f ∷ rest)).numerator ((sum_of (f ∷ rest)).denominator * length (f ∷ rest))

-- which of two fractions is the lower one, denominators being above 0
unfoldable pub is_below : Fraction → Fraction → Bool
is_below f g = ltb (f.numerator * g.denominator) (g.numerator * f.denominator)

-- of some fractions the one that no other comes before
pub record First (before : Fraction → Fraction → Bool) (l : List Fraction) (m : Fraction) : Type 0 where
  pub among : Has m l
  pub first : (f : Fraction) → Has f l → before f m ≡ false

unfoldable pub first_from : (Fraction → Fraction → Bool) → Fraction → List Fraction → Fraction
first_from before f [] = f
first_from before f (g ∷ rest) = first_from before (cond (before g f) g f) rest

-- of none it is 0/1
abbrev pub first_by : (Fraction → Fraction → Bool) → List Fraction → Fraction
first_by before [] = zero_fraction
first_by before (f ∷ rest) = first_from before f rest

unfoldable pub least_fraction : List Fraction → Fraction
least_fraction l = first_by is_below l

abbrev pub is_above : Fraction → Fraction → Bool
is_above f g = is_below g f

unfoldable pub greatest_fraction : List Fraction → Fraction
greatest_fraction l = first_by is_above l

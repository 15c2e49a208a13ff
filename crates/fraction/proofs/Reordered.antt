-- Fractions in another order have the same sum, mean, least and greatest; and the sum is the same fraction over any common denominator. Assumes nothing.
use mathlib.Core.Path.{◌≡◌, refl, ap, sym, ◌∙◌}
use mathlib.Core.Bool.{Bool, false, cond}
use mathlib.Core.Logic.{inl, inr}
use mathlib.Core.List.Permᴰ
use mathlib.Core.List.{List, [], ◌∷◌, Permᴰ}
use Prim.Native.Nat.{ℕ, suc, ◌+◌, ◌*◌, ◌/◌, ◌<◌}
use native.Mathlib.Omega.{arith}
use native.Mathlib.Nat.{mul_assoc, mul_comm, mul-div_cancel', dvd_antisymm}
use borrow.Author.Tests.{ne_eqb, ltb-false}
use lib.Dec.{eqb}
use lib.ListN.{length}
use Rattle.lists.specs.Lists.{Has}
use Rattle.fraction.specs.declared.Fraction.{Fraction}
use Rattle.fraction.specs.Fraction.{Positive, Divided, LeastCommonDenominator, common_denominator, numerator_over, sum_of, zero_fraction, mean, lowest_terms, is_below, is_above, First, first_by, least_fraction, greatest_fraction}
use Rattle.fraction.specs.Divisor.{gcd}
use Rattle.fraction.proofs.Fractions.{same-fraction, common-denominator-is, numerator-times}
use Rattle.fraction.proofs.Extremes.{StrictOrder, first-is, below-ordered, above-ordered}

-- over any common denominator the sum is the same fraction
pub same_sum : (n : ℕ) (l : List Fraction) → Positive l → Divided n l → numerator_over n l * (sum_of l).denominator ≡ (sum_of l).numerator * n
unfolding sum_of
same_sum n l h d =
    let c = common-denominator-is l h in
    let m = common_denominator l in
    let k : m * (n / m) ≡ n = mul-div_cancel' m (c.least n d) in
    let e : numerator_over n l ≡ numerator_over m l * (n / m) = ap (λ (x : ℕ). numerator_over x l) (sym k) ∙ numerator-times m (n / m) l c.divided in
    ap (λ (x : ℕ). x * m) e ∙ mul_assoc (numerator_over m l) (n / m) m ∙ ap (λ (x : ℕ). numerator_over m l * x) (mul_comm (n / m) m ∙ k)

-- there is one least common denominator
least-common : (l : List Fraction) (m n : ℕ) → LeastCommonDenominator l m → LeastCommonDenominator l n → m ≡ n
least-common l m n p q = dvd_antisymm (p.least n q.divided) (q.least m p.divided)

divided-reordered : (n : ℕ) {l m : List Fraction} → Permᴰ l m → Divided n l → Divided n m
divided-reordered n Permᴰ.nil d = tt
divided-reordered n (Permᴰ.cons e r) d = (rw e at d.0, divided-reordered n r d.1)
divided-reordered n (Permᴰ.swap e g) d = (rw g at d.1.0, (rw e at d.0, d.1.1))
divided-reordered n (Permᴰ.trans r s) d = divided-reordered n s (divided-reordered n r d)

positive-reordered : {l m : List Fraction} → Permᴰ l m → Positive l → Positive m
positive-reordered Permᴰ.nil d = tt
positive-reordered (Permᴰ.cons e r) d = (rw e at d.0, positive-reordered r d.1)
positive-reordered (Permᴰ.swap e g) d = (rw g at d.1.0, (rw e at d.0, d.1.1))
positive-reordered (Permᴰ.trans r s) d = positive-reordered s (positive-reordered r d)

pub common-reordered : {l m : List Fraction} → Permᴰ l m → Positive l → common_denominator l ≡ common_denominator m
common-reordered {l} {m} r h =
    let p = common-denominator-is l h in
    let q = common-denominator-is m (positive-reordered r h) in
    least-common m (common_denominator l) (common_denominator m) (record { divided = divided-reordered (common_denominator l) r p.divided; least = λ n d. p.least n (divided-reordered n (Permᴰ.symm r) d) }) q

numerator-reordered : (d : ℕ) {l m : List Fraction} → Permᴰ l m → numerator_over d l ≡ numerator_over d m
unfolding numerator_over
numerator-reordered d Permᴰ.nil = refl
numerator-reordered d (Permᴰ.cons {a} {b} e r) = rw e (ap (λ (x : ℕ). b.numerator * (d / b.denominator) + x) (numerator-reordered d r))
numerator-reordered d (Permᴰ.swap {a} {b} {a'} {b'} {l} e g) = rw (e, g) (omega arith)
numerator-reordered d (Permᴰ.trans r s) = numerator-reordered d r ∙ numerator-reordered d s

pub sum-reordered : {l m : List Fraction} → Permᴰ l m → Positive l → sum_of l ≡ sum_of m
unfolding sum_of
sum-reordered {l} {m} r h =
    let c = common-reordered r h in
    let n : numerator_over (common_denominator l) l ≡ numerator_over (common_denominator m) m = ap (λ (x : ℕ). numerator_over x l) c ∙ numerator-reordered (common_denominator m) r in
    λ i. record { numerator = n i; denominator = c i }

pub length-reordered : {A : Type 0} {l m : List A} → Permᴰ l m → length l ≡ length m
length-reordered Permᴰ.nil = refl
length-reordered (Permᴰ.cons e r) = ap suc (length-reordered r)
length-reordered (Permᴰ.swap e g) = refl
length-reordered (Permᴰ.trans r s) = length-reordered r ∙ length-reordered s

-- the mean by the sum and the count
mean-by : (l : List Fraction) → mean l ≡ cond (eqb (length l) 0) zero_fraction (lowest_terms (sum_of l).numerator ((sum_of l).denominator * length l))
unfolding mean
mean-by [] = refl
mean-by (f ∷ l) = let n : eqb (suc (length l)) 0 ≡ false = ne_eqb (suc (length l)) 0 (λ e. omega arith) in rw n

pub mean-reordered : {l m : List Fraction} → Permᴰ l m → Positive l → mean l ≡ mean m
mean-reordered {l} {m} r h = mean-by l ∙ rw (sum-reordered r h, length-reordered r) (sym (mean-by m))

-- the least and the greatest, of fractions in lowest terms
has-reordered : (f : Fraction) {l m : List Fraction} → Permᴰ l m → Has f l → Has f m
has-reordered f Permᴰ.nil h = h
has-reordered f (Permᴰ.cons e r) (inl q) = inl (q ∙ e)
has-reordered f (Permᴰ.cons e r) (inr h) = inr (has-reordered f r h)
has-reordered f (Permᴰ.swap e g) (inl q) = inr (inl (q ∙ e))
has-reordered f (Permᴰ.swap e g) (inr (inl q)) = inl (q ∙ g)
has-reordered f (Permᴰ.swap e g) (inr (inr h)) = inr (inr h)
has-reordered f (Permᴰ.trans r s) h = has-reordered f s (has-reordered f r h)

abbrev pub Reduced : List Fraction → Type 0
Reduced [] = Unit {0}
Reduced (f ∷ l) = ((0 < f.denominator) × (gcd f.numerator f.denominator ≡ 1)) × Reduced l

pub reduced-positive : (l : List Fraction) → Reduced l → Positive l
reduced-positive [] h = tt
reduced-positive (f ∷ l) h = (h.0.0, reduced-positive l h.1)

reduced-has : (g : Fraction) (l : List Fraction) → Reduced l → Has g l → (0 < g.denominator) × (gcd g.numerator g.denominator ≡ 1)
reduced-has g [] h p = absurd p
reduced-has g (f ∷ l) h (inl e) = rw e h.0
reduced-has g (f ∷ l) h (inr p) = reduced-has g l h.1 p

-- neither of two fractions is below the other: they are the same
neither-below : (f g : Fraction) → gcd f.numerator f.denominator ≡ 1 → gcd g.numerator g.denominator ≡ 1 → 0 < g.denominator → is_below f g ≡ false → is_below g f ≡ false → f ≡ g
unfolding is_below
neither-below f g p q h a b =
    let x = ltb-false (f.numerator * g.denominator) (g.numerator * f.denominator) a in
    let y = ltb-false (g.numerator * f.denominator) (f.numerator * g.denominator) b in
    same-fraction f g p q h (omega arith)

none_left : {A : Type 0} {x : A} {l : List A} → Permᴰ [] (x ∷ l) → ⊥
none_left r = let n = length-reordered r in omega arith

-- one law for both: neither of the two firsts comes before the other
module _ (before : Fraction → Fraction → Bool) (o : StrictOrder before) (both : (f g : Fraction) → before f g ≡ false → before g f ≡ false → (is_below f g ≡ false) × (is_below g f ≡ false)) where
  first-same : {l m : List Fraction} (x y : Fraction) → Permᴰ l m → Reduced l → First before l x → First before m y → x ≡ y
  first-same {l} {m} x y r h p q =
      let a : Has y l = has-reordered y (Permᴰ.symm r) q.among in
      let u = reduced-has x l h p.among in
      let v = reduced-has y l h a in
      let b = both x y (q.first x (has-reordered x r p.among)) (p.first y a) in
      neither-below x y u.1 v.1 v.0 b.0 b.1

  first-reordered : (l m : List Fraction) → Permᴰ l m → Reduced l → first_by before l ≡ first_by before m
  first-reordered [] [] r h = refl
  first-reordered [] (g ∷ m) r h = absurd (none_left r)
  first-reordered (f ∷ l) [] r h = absurd (none_left (Permᴰ.symm r))
  first-reordered (f ∷ l) (g ∷ m) r h =
      let k = reduced-positive (f ∷ l) h in
      first-same (first_by before (f ∷ l)) (first_by before (g ∷ m)) r h (first-is before o f l k) (first-is before o g m (positive-reordered r k))

pub least-reordered : (l m : List Fraction) → Permᴰ l m → Reduced l → least_fraction l ≡ least_fraction m
unfolding least_fraction
least-reordered = first-reordered is_below below-ordered (λ f g a b. (a, b))

pub greatest-fraction-reordered : (l m : List Fraction) → Permᴰ l m → Reduced l → greatest_fraction l ≡ greatest_fraction m
unfolding greatest_fraction
greatest-fraction-reordered = first-reordered is_above above-ordered (λ f g a b. (b, a))

-- What the code answers of numbers that may not fit 64 bits, one law for each return. Assumes nothing.
use mathlib.Core.Path.{◌≡◌, ap, sym, ◌∙◌}
use mathlib.Core.Bool.{true, false, ◌&&◌, and-false}
use Prim.Native.Nat.{ℕ, ◌+◌, ◌*◌, ◌/◌, ◌≤◌, ◌<◌}
use native.Mathlib.Omega.{arith}
use native.Mathlib.Nat.{div-zero, mul-le-mul_right, mul-div-le}
use borrow.Author.Tests.{lt-ltb, le-ltb, ltb-true, ltb-false}
use lib.Dec.{ltb}
use Rattle.std.specs.Prelude.{Option, Some, None, SomeIff}
use Rattle.std.proofs.lemmas.Option.{none-some, same_Some}
use Rattle.lists.proofs.Lists.{by}
use Rattle.fraction.specs.declared.Fraction.{Fraction}
use Rattle.fraction.specs.Divisor.{gcd, lcm}
use Rattle.fraction.specs.Fraction.{lowest_terms}
use Rattle.fraction.specs.Bounded.{limit64, greatest64, fits64, bounded, bounded_fraction, plus, Addable}
use Rattle.fraction.proofs.Fractions.{quotient_is}

-- a number that fits, and one that does not
pub bounded-fits : (n : ℕ) → n < limit64 → Some n ≡ bounded n
unfolding bounded
bounded-fits n h = rw (lt-ltb n limit64 h)

pub bounded-wide : (n : ℕ) → limit64 ≤ n → None ≡ bounded n
unfolding bounded
bounded-wide n h = rw (le-ltb n limit64 h)

-- what the library's products and sums answer
pub bounded-is : (n : ℕ) (r : Option ℕ) → SomeIff r (n < limit64) n → r ≡ bounded n
bounded-is n (Some v) h = ap (λ (x : ℕ). Some x) h.1 ∙ bounded-fits n h.0
bounded-is n None h = bounded-wide n (omega arith)

-- what an answer says of its number
pub record BoundedBy (n v : ℕ) : Type 0 where
  pub value : v ≡ n
  pub small : n < limit64

pub told-fits : (n v : ℕ) → Some v ≡ bounded n → BoundedBy n v
unfolding bounded
told-fits n v e =
    by (ltb n limit64)
    (λ (h : ltb n limit64 ≡ true). let f = rw h at e in record { value = same_Some v n f; small = ltb-true n limit64 h })
    (λ (h : ltb n limit64 ≡ false). let f = rw h at e in absurd (none-some v (sym f)))

pub told-wide : (n : ℕ) → None ≡ bounded n → limit64 ≤ n
unfolding bounded
told-wide n e =
    by (ltb n limit64)
    (λ (h : ltb n limit64 ≡ true). let f = rw h at e in absurd (none-some n f))
    (λ (h : ltb n limit64 ≡ false). ltb-false n limit64 h)

-- fractions
pub fraction-fits : (f : Fraction) → f.numerator < limit64 → f.denominator < limit64 → Some f ≡ bounded_fraction f
unfolding bounded_fraction
fraction-fits f n d = rw (lt-ltb f.denominator limit64 d, lt-ltb f.numerator limit64 n)

pub fraction-wide-below : (f : Fraction) → limit64 ≤ f.denominator → None ≡ bounded_fraction f
unfolding bounded_fraction
fraction-wide-below f d = rw (le-ltb f.denominator limit64 d)

pub fraction-wide-above : (f : Fraction) → limit64 ≤ f.numerator → None ≡ bounded_fraction f
unfolding bounded_fraction
fraction-wide-above f n = rw (le-ltb f.numerator limit64 n, and-false)

-- what an answer says of its fraction
pub record FractionBy (f g : Fraction) : Type 0 where
  pub value : g ≡ f
  pub fits : (fits64 f.denominator && fits64 f.numerator) ≡ true

pub fraction-told : (f g : Fraction) → Some g ≡ bounded_fraction f → FractionBy f g
unfolding bounded_fraction
fraction-told f g e =
    by (fits64 f.denominator && fits64 f.numerator)
    (λ (h : (fits64 f.denominator && fits64 f.numerator) ≡ true). let q = rw h at e in record { value = same_Some g f q; fits = h })
    (λ (h : (fits64 f.denominator && fits64 f.numerator) ≡ false). let q = rw h at e in absurd (none-some g (sym q)))

pub fraction-wide : (f : Fraction) → None ≡ bounded_fraction f → (fits64 f.denominator && fits64 f.numerator) ≡ false
unfolding bounded_fraction
fraction-wide f e =
    by (fits64 f.denominator && fits64 f.numerator)
    (λ (h : (fits64 f.denominator && fits64 f.numerator) ≡ true). let q = rw h at e in absurd (none-some f q))
    (λ (h : (fits64 f.denominator && fits64 f.numerator) ≡ false). h)

-- lowest terms by the greatest common divisor; of 0 over 0 they are 0 over 0
pub lowest-none : (a b common : ℕ) → common ≡ gcd a b → common ≡ 0 → record { numerator = 0; denominator = 0 } ≡ lowest_terms a b
unfolding lowest_terms
lowest-none a b common e z = rw (← e, z, div-zero a, div-zero b)

pub lowest-some : (a b common : ℕ) → common ≡ gcd a b → record { numerator = a / common; denominator = b / common } ≡ lowest_terms a b
unfolding lowest_terms
lowest-some a b common e = rw e

-- the least common multiple as the code makes it
pub multiple-is : (a b : ℕ) (parts : Fraction) (r : Option ℕ) → parts ≡ lowest_terms a b → SomeIff r (parts.numerator * b < limit64) (parts.numerator * b) → r ≡ bounded (lcm a b)
unfolding lowest_terms lcm
multiple-is a b parts r e h = bounded-is (parts.numerator * b) r h ∙ ap (λ (x : Fraction). bounded (x.numerator * b)) e

-- a sum with one fraction more: what the code has when it returns
module _ (sum share : Fraction) (h : Addable sum share) where
  pub plus-wide : None ≡ bounded (lcm sum.denominator share.denominator) → None ≡ bounded_fraction (plus sum share)
  unfolding plus
  plus-wide e = fraction-wide-below (plus sum share) (told-wide (lcm sum.denominator share.denominator) e)

  module _ (common : ℕ) (e : Some common ≡ bounded (lcm sum.denominator share.denominator)) where
    plus-common : common ≡ lcm sum.denominator share.denominator
    plus-common = (told-fits (lcm sum.denominator share.denominator) common e).value

    -- a share's part of the numerator is at most the denominator
    pub part_small : share.numerator * (common / share.denominator) ≤ greatest64
    part_small =
        let a = mul-le-mul_right (common / share.denominator) h.atmost in
        let b = mul-div-le common share.denominator in
        let c = told-fits (lcm sum.denominator share.denominator) common e in
        let d = c.value in
        let f = c.small in
        omega arith

    pub part-fits : share.numerator * (common / share.denominator) < limit64
    part-fits = let a = part_small in omega arith

    pub plus-scaled-wide : limit64 ≤ sum.numerator * (common / sum.denominator) → None ≡ bounded_fraction (plus sum share)
    unfolding plus
    plus-scaled-wide w =
        let c = plus-common in
        fraction-wide-above (plus sum share) (rw (← c) (omega arith))

    module _ (scaled : ℕ) (s : scaled ≡ sum.numerator * (common / sum.denominator)) where
      plus-numerator : scaled + share.numerator * (common / share.denominator) ≡ (plus sum share).numerator
      unfolding plus
      plus-numerator = let c = plus-common in rw (s, c)

      pub plus-sum-wide : limit64 ≤ scaled + share.numerator * (common / share.denominator) → None ≡ bounded_fraction (plus sum share)
      plus-sum-wide w = let n = plus-numerator in fraction-wide-above (plus sum share) (omega arith)

      pub plus-told : (numerator : ℕ) → numerator ≡ scaled + share.numerator * (common / share.denominator) → numerator < limit64 → Some (record { numerator = numerator; denominator = common }) ≡ bounded_fraction (plus sum share)
      unfolding plus
      plus-told numerator q small =
          let n = plus-numerator in
          let c = plus-common in
          let d = (told-fits (lcm sum.denominator share.denominator) common e).small in
          fraction-fits (record { numerator = numerator; denominator = common }) small (omega arith) ∙ (λ i. bounded_fraction (record { numerator = (q ∙ n) i; denominator = c i }))

-- a sum divided by a count
module _ (sum : Fraction) (count : ℕ) (p : 0 < sum.denominator) (q : 0 < count) (reduced parts : Fraction) (e : reduced ≡ lowest_terms sum.numerator sum.denominator) (f : parts ≡ lowest_terms reduced.numerator count) where
  quotient-parts : lowest_terms sum.numerator (sum.denominator * count) ≡ record { numerator = parts.numerator; denominator = reduced.denominator * parts.denominator }
  quotient-parts = rw (f, e) (quotient_is sum.numerator sum.denominator count p q)

  pub divided-wide : limit64 ≤ reduced.denominator * parts.denominator → None ≡ bounded_fraction (lowest_terms sum.numerator (sum.denominator * count))
  divided-wide w = rw quotient-parts (fraction-wide-below (record { numerator = parts.numerator; denominator = reduced.denominator * parts.denominator }) w)

  pub divided-told : (denominator : ℕ) → denominator ≡ reduced.denominator * parts.denominator → parts.numerator < limit64 → denominator < limit64 → Some (record { numerator = parts.numerator; denominator = denominator }) ≡ bounded_fraction (lowest_terms sum.numerator (sum.denominator * count))
  divided-told denominator v n d =
      fraction-fits (record { numerator = parts.numerator; denominator = denominator }) n d
      ∙ ap (λ (x : ℕ). bounded_fraction (record { numerator = parts.numerator; denominator = x })) v ∙ ap bounded_fraction (sym quotient-parts)

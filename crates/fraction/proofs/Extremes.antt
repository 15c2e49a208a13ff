-- The least and the greatest of some fractions: one more is compared with the one that is known; and they are what their names say. Assumes nothing.
use mathlib.Core.Path.{◌≡◌, refl}
use mathlib.Core.Bool.{Bool, true, false, ◌||◌, cond}
use mathlib.Core.Logic.{inl, inr, ⊎_elim}
use mathlib.Core.List.{List, [], ◌∷◌, ◌++◌}
use Prim.Native.Nat.{suc, ◌*◌, ◌≤◌, ◌<◌}
use native.Mathlib.Omega.{arith}
use native.Mathlib.Nat.{mul_right_comm, mul-le-mul_right, le_of_mul-le-mul_right}
use borrow.Author.Tests.{ne_eqb, le-ltb, ltb-true, ltb-false}
use lib.Dec.{eqb}
use lib.ListN.{length}
use Rattle.lists.proofs.Lists.{by}
use Rattle.fraction.specs.declared.Fraction.{Fraction}
use Rattle.fraction.specs.Fraction.{Positive, is_below, is_above, first_from, first_by, least_fraction, greatest_fraction, First}

module _ (before : Fraction → Fraction → Bool) where
  from_more : (f : Fraction) (l : List Fraction) (g : Fraction) → first_from before f (l ++ (g ∷ [])) ≡ cond (before g (first_from before f l)) g (first_from before f l)
  unfolding first_from
  from_more f [] g = refl
  from_more f (h ∷ l) g = from_more (cond (before h f) h f) l g

  -- one fraction more
  pub first_more : (l : List Fraction) (g : Fraction) → first_by before (l ++ (g ∷ [])) ≡ cond (eqb (length l) 0 || before g (first_by before l)) g (first_by before l)
  unfolding first_from
  first_more [] g = refl
  first_more (f ∷ l) g = let n : eqb (suc (length l)) 0 ≡ false = ne_eqb (suc (length l)) 0 (λ e. omega arith) in rw n (from_more f l g)

pub least_more : (l : List Fraction) (g : Fraction) → least_fraction (l ++ (g ∷ [])) ≡ cond (eqb (length l) 0 || is_below g (least_fraction l)) g (least_fraction l)
unfolding least_fraction
least_more l g = first_more is_below l g

pub greatest-fraction-more : (l : List Fraction) (g : Fraction) → greatest_fraction (l ++ (g ∷ [])) ≡ cond (eqb (length l) 0 || is_below (greatest_fraction l) g) g (greatest_fraction l)
unfolding greatest_fraction
greatest-fraction-more l g = first_more is_above l g

-- Of fractions with denominators above 0, what is not below a fraction that is not below a third is not below that.
module _ (f g h : Fraction) (pos : 0 < g.denominator) where
  below-trans : is_below f g ≡ false → is_below g h ≡ false → is_below f h ≡ false
  unfolding is_below
  below-trans p q =
      let a = ltb-false (f.numerator * g.denominator) (g.numerator * f.denominator) p in
      let b = ltb-false (g.numerator * h.denominator) (h.numerator * g.denominator) q in
      let c : h.numerator * f.denominator * g.denominator ≤ f.numerator * h.denominator * g.denominator =
      let x = mul-le-mul_right f.denominator b in
      let y = mul-le-mul_right h.denominator a in
      let u = mul_right_comm h.numerator g.denominator f.denominator in
      let v = mul_right_comm g.numerator h.denominator f.denominator in
      let w = mul_right_comm f.numerator g.denominator h.denominator in
      omega arith in
      le-ltb (f.numerator * h.denominator) (h.numerator * f.denominator) (le_of_mul-le-mul_right c pos)

below-turned : (f g : Fraction) → is_below f g ≡ true → is_below g f ≡ false
unfolding is_below
below-turned f g p =
    let a = ltb-true (f.numerator * g.denominator) (g.numerator * f.denominator) p in
    le-ltb (g.numerator * f.denominator) (f.numerator * g.denominator) (omega arith)

below_self : (f : Fraction) → is_below f f ≡ false
unfolding is_below
below_self f = le-ltb (f.numerator * f.denominator) (f.numerator * f.denominator) (omega arith)

-- The first is among them, and no other comes before it, where "not before" goes on from one fraction to the next.
pub record StrictOrder (before : Fraction → Fraction → Bool) : Type 0 where
  pub self : (f : Fraction) → before f f ≡ false
  pub turned : (f g : Fraction) → before f g ≡ true → before g f ≡ false
  pub trans : (f g h : Fraction) → 0 < g.denominator → before f g ≡ false → before g h ≡ false → before f h ≡ false

module _ (before : Fraction → Fraction → Bool) (o : StrictOrder before) where
  first-from : (f : Fraction) (l : List Fraction) → 0 < f.denominator → Positive l → First before (f ∷ l) (first_from before f l)
  unfolding first_from
  first-from f [] p h = record { among = inl refl; first = λ g m. ⊎_elim (λ (e : g ≡ f). rw e (o.self f)) (λ m. absurd m) m }
  first-from f (g ∷ l) p h =
      by (before g f)
      (λ (e : before g f ≡ true).
      let r = first-from g l h.0 h.1 in
      let m = first_from before g l in
      rw e (record {
        among = inr r.among;
        first = λ x m. ⊎_elim (λ (q : x ≡ f). rw q (o.trans f g (first_from before g l) h.0 (o.turned g f e) (r.first g (inl refl)))) (r.first x) m;
      }))
      (λ (e : before g f ≡ false).
      let r = first-from f l p h.1 in
      rw e (record {
        among = ⊎_elim (λ q. inl q) (λ m. inr (inr m)) r.among;
        first = λ x m.
            ⊎_elim (λ (q : x ≡ f). rw q (r.first f (inl refl)))
            (λ m. ⊎_elim (λ (q : x ≡ g). rw q (o.trans g f (first_from before f l) p e (r.first f (inl refl)))) (λ m. r.first x (inr m)) m) m;
      }))

  pub first-is : (f : Fraction) (l : List Fraction) → Positive (f ∷ l) → First before (f ∷ l) (first_by before (f ∷ l))
  first-is f l h = first-from f l h.0 h.1

pub below-ordered : StrictOrder is_below
below-ordered = record { self = below_self; turned = below-turned; trans = below-trans }

pub above-ordered : StrictOrder is_above
above-ordered = record { self = below_self; turned = λ f g. below-turned g f; trans = λ f g h p q r. below-trans h g f p r q }

pub least-is : (f : Fraction) (l : List Fraction) → Positive (f ∷ l) → First is_below (f ∷ l) (least_fraction (f ∷ l))
unfolding least_fraction
least-is = first-is is_below below-ordered

pub greatest-is : (f : Fraction) (l : List Fraction) → Positive (f ∷ l) → First is_above (f ∷ l) (greatest_fraction (f ∷ l))
unfolding greatest_fraction
greatest-is = first-is is_above above-ordered

-- What the shares, the mean, the least and the greatest are; and answers in another order come to the same. Assumes nothing.
use mathlib.Core.Path.{◌≡◌, refl, sym, ◌∙◌}
use mathlib.Core.Bool.{Bool, true, false, not}
use mathlib.Core.List.Permᴰ
use mathlib.Core.List.{List, [], ◌∷◌, Permᴰ}
use Prim.Native.Nat.{◌*◌, ◌<◌}
use native.Mathlib.Omega.{arith}
use native.Mathlib.Nat.{mul-pos}
use borrow.Author.Tests.{eqb-false}
use lib.Dec.{eqb}
use lib.ListN.{length}
use Rattle.lists.specs.Lists.{filter}
use Rattle.lists.proofs.Lists.{by}
use Rattle.fraction.specs.declared.Fraction.{Fraction}
use Rattle.fraction.specs.Fraction.{LowestTerms, Positive, sum_of, mean, is_below, is_above, First, least_fraction, greatest_fraction}
use Rattle.fraction.proofs.Fractions.{lowest-terms-is, common-positive}
use Rattle.fraction.proofs.Extremes.{least-is, greatest-is}
use Rattle.fraction.proofs.Reordered.{reduced-positive, length-reordered, mean-reordered, least-reordered, greatest-fraction-reordered}
use Rattle.unity_table.specs.declared.Weights.{Weights}
use Rattle.unity_table.proofs.Sums.{shares-reduced, shares-positive}
use Rattle.unity_table.specs.Unity.{is_empty, is_won, share_of, shares, deciding_fault, weights_fault, Fault, count_by, summary, unity_by, unity_of}

-- The mean of some shares has no common divisor, and times their number it is their sum.
pub mean-lowest : (l : List Weights) (f : Fraction) (rest : List Fraction) → shares l ≡ f ∷ rest → LowestTerms (sum_of (shares l)).numerator ((sum_of (shares l)).denominator * length (shares l)) (mean (shares l))
unfolding mean sum_of
mean-lowest l f rest e =
    let p : Positive (f ∷ rest) = rw e at (shares-positive l) in
    let c = common-positive (f ∷ rest) p in
    let d : 0 < (sum_of (f ∷ rest)).denominator * length (f ∷ rest) = mul-pos c (omega arith) in
    rw e (lowest-terms-is (sum_of (f ∷ rest)).numerator ((sum_of (f ∷ rest)).denominator * length (f ∷ rest)) d)

-- The least and the greatest are shares of the table, and no share is below the one or above the other.
pub least-share : (l : List Weights) (f : Fraction) (rest : List Fraction) → shares l ≡ f ∷ rest → First is_below (shares l) (least_fraction (shares l))
least-share l f rest e = rw e (least-is f rest (rw e at (shares-positive l)))

pub greatest-share : (l : List Weights) (f : Fraction) (rest : List Fraction) → shares l ≡ f ∷ rest → First is_above (shares l) (greatest_fraction (shares l))
greatest-share l f rest e = rw e (greatest-is f rest (rw e at (shares-positive l)))

-- another order
module _ (p : Weights → Bool) where
  filter-reordered : {l m : List Weights} → Permᴰ l m → Permᴰ (filter p l) (filter p m)
  unfolding filter
  filter-reordered Permᴰ.nil = Permᴰ.nil
  filter-reordered (Permᴰ.cons {a} {b} e r) =
      by (p b)
      (λ (h : p b ≡ true). rw (e, h) (Permᴰ.cons refl (filter-reordered r)))
      (λ (h : p b ≡ false). rw (e, h) (filter-reordered r))
  filter-reordered (Permᴰ.swap {a} {b} {a'} {b'} {l} e g) =
      by (p a')
      (λ (h : p a' ≡ true).
      by (p b')
      (λ (k : p b' ≡ true). rw (e, g, h, k) (Permᴰ.swap refl refl))
      (λ (k : p b' ≡ false). rw (e, g, h, k) (Permᴰ.refl (a' ∷ filter p l))))
      (λ (h : p a' ≡ false).
      by (p b')
      (λ (k : p b' ≡ true). rw (e, g, h, k) (Permᴰ.refl (b' ∷ filter p l)))
      (λ (k : p b' ≡ false). rw (e, g, h, k) (Permᴰ.refl (filter p l))))
  filter-reordered (Permᴰ.trans r s) = Permᴰ.trans (filter-reordered r) (filter-reordered s)

  count-reordered : {l m : List Weights} → Permᴰ l m → count_by p l ≡ count_by p m
  unfolding count_by
  count-reordered r = length-reordered (filter-reordered r)

shares-reordered : {l m : List Weights} → Permᴰ l m → Permᴰ (shares l) (shares m)
unfolding shares
shares-reordered r = Permᴰ.map share_of (filter-reordered (λ a. not (is_empty a)) r)

summary-reordered : (l m : List Weights) → Permᴰ l m → summary l ≡ summary m
unfolding summary
summary-reordered l m r =
    let s = shares-reordered r in
    let h = shares-reduced l in
    let a = mean-reordered s (reduced-positive (shares l) h) in
    let b = least-reordered (shares l) (shares m) s h in
    let c = greatest-fraction-reordered (shares l) (shares m) s h in
    let d = count-reordered is_won r in
    let e = count-reordered is_empty r in
    λ i. record { number = 0; row = 0; mean = a i; least = b i; greatest = c i; won = d i; empty = e i }

accepted-summary : (l : List Weights) → (unity_of l).number ≡ 0 → unity_of l ≡ summary l
unfolding unity_of
accepted-summary l z = go (deciding_fault weights_fault [] l) z
  where
    go : (g : Fault) → (unity_by g l).number ≡ 0 → unity_by g l ≡ summary l
    go g z = by (eqb g.number 0) (λ (e : eqb g.number 0 ≡ true). rw e) (λ (e : eqb g.number 0 ≡ false). absurd (eqb-false g.number 0 e (rw e at z)))

-- Of answers in another order the answer is the same where both tables are accepted.
pub unity-reordered : (l m : List Weights) → Permᴰ l m → (unity_of l).number ≡ 0 → (unity_of m).number ≡ 0 → unity_of l ≡ unity_of m
unity-reordered l m r p q = accepted-summary l p ∙ summary-reordered l m r ∙ sym (accepted-summary m q)

-- Two rows, or the first cells of two rows, compared cell by cell. Assumes nothing.
use mathlib.Core.Path.{◌≡◌, refl, ap, sym, ◌∙◌}
use mathlib.Core.Bool.{Bool, true, false, ◌&&◌}
use mathlib.Core.List.{List, [], ◌∷◌}
use Prim.Native.Nat.{ℕ, ◌≤◌}
use native.Mathlib.Omega.{arith}
use borrow.Author.Tests.{eqb-true, eq-eqb}
use lib.Dec.{eqb}
use lib.ListN.{length, take}
use lib.Seq.{length-take-le}
use lib.Pointwise.{pointwise}
use Rattle.std.specs.Prelude.{Some}
use Rattle.std.specs.Ordering.{nat_cmp, is_lt, is_some_and}
use Rattle.std.specs.Cmp.Lexicographic.{slice_partial_cmp}
use Rattle.std.proofs.lemmas.Bool.Decides.{nat_tests}
use Rattle.lists.proofs.Lists.{by, clash, and_l, and_r}
use Rattle.lists.specs.Keyed.{precedes}
use Rattle.lists.proofs.Order.{less-irrefl, less-total}
use Rattle.record_rows.specs.row.Row.{same}

pub same-eq : (a b : List ℕ) → same a b ≡ true → a ≡ b
unfolding same
same-eq [] [] h = refl
same-eq [] (y ∷ b) h = clash h refl
same-eq (x ∷ a) [] h = clash h refl
same-eq (x ∷ a) (y ∷ b) h =
    let e : x ≡ y = eqb-true x y (and_l (eqb x y) (same a b) h) in
    let f : a ≡ b = same-eq a b (and_r (eqb x y) (same a b) h) in
    cc

pub same_refl : (a : List ℕ) → same a a ≡ true
unfolding same
same_refl [] = refl
same_refl (x ∷ a) = rw (eq-eqb x x refl, same_refl a)

-- keys of which one precedes the other are not equal
pub less_other : (a b : List ℕ) → precedes a b ≡ true → same a b ≡ false
less_other a b h = by (same a b) (λ e. let p : a ≡ b = same-eq a b e in clash (rw p at h) (less-irrefl b)) (λ e. e)

pub more-other : (a b : List ℕ) → precedes b a ≡ true → same a b ≡ false
more-other a b h = by (same a b) (λ e. let p : a ≡ b = same-eq a b e in clash (rw p at h) (less-irrefl b)) (λ e. e)

-- of one length, they are equal where neither precedes the other
pub neither-same : (a b : List ℕ) → length a ≡ length b → precedes a b ≡ false → precedes b a ≡ false → same a b ≡ true
neither-same a b l p q = let e : a ≡ b = less-total a b l p q in rw e (same_refl b)

-- what `==` says of two slices of numbers, and `<`
pub slice-same : (a b : List ℕ) → pointwise eqb a b ≡ same a b
unfolding same
slice-same [] [] = refl
slice-same [] (y ∷ b) = refl
slice-same (x ∷ a) [] = refl
slice-same (x ∷ a) (y ∷ b) = ap (λ (t : Bool). eqb x y && t) (slice-same a b)

pub slice-less : (a b : List ℕ) → length a ≡ length b → is_some_and is_lt (slice_partial_cmp (λ x y. Some (nat_cmp x y)) a b) ≡ precedes a b
unfolding precedes
slice-less [] [] h = refl
slice-less [] (y ∷ b) h = absurd (omega (arith, h))
slice-less (x ∷ a) [] h = absurd (omega (arith, h))
slice-less (x ∷ a) (y ∷ b) h = let more = slice-less a b (omega (arith, h)) in grind (arith, nat_tests)

-- the first k cells of two rows
pub cells-less : (a b : List ℕ) (k : ℕ) → k ≤ length a → k ≤ length b
    → {r : Bool} → r ≡ is_some_and is_lt (slice_partial_cmp (λ x y. Some (nat_cmp x y)) (take k a) (take k b)) → r ≡ precedes (take k a) (take k b)
cells-less a b k p q s = s ∙ slice-less (take k a) (take k b) (length-take-le k a p ∙ sym (length-take-le k b q))

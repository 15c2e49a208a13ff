-- The place of an element in an ascending table, looked for by halving, and what its insertion there gives. Assumes nothing.
use mathlib.Core.Path.{◌≡◌, refl, ap}
use mathlib.Core.Bool.{true, false}
use mathlib.Core.Logic.{inl, inr, ⊎_elim}
use mathlib.Core.List.{List, [], ◌∷◌, ◌++◌}
use Prim.Native.Nat.{ℕ, zero, suc, ◌≤◌, ◌<◌}
use native.Mathlib.Omega.{arith}
use lib.Dec.{ltb}
use lib.ListN.{length, take, drop, get_or}
use borrow.Author.Tests.{ltb-true, ltb-false}
use Rattle.std.specs.List.Sorted.{IsPartitionedBy, IsPartitionPoint}
use Rattle.lists.proofs.Lists.{by, clash}
use Rattle.lists.specs.Keyed.{precedes, Ascending, inserted}
use Rattle.lists.specs.Lists.{Has}
use Rattle.lists.proofs.Logic.{has-get_or}
use Rattle.lists.proofs.Order.{less-irrefl, less-trans}
use Rattle.lists.proofs.Union.{below-has}
use Rattle.record_joining.specs.insertion.Insertion.{Place}

less-asym : (a b : List ℕ) → precedes a b ≡ true → precedes b a ≡ false
less-asym a b e = by (precedes b a) (λ f. clash (less-trans a b a e f) (less-irrefl a)) (λ f. f)

module _ {A : Type 0} (key : A → List ℕ) where
  -- of an ascending table, what comes first precedes
  ascends-at : (l : List A) (i j : ℕ) (d : A) → Ascending key l → i < j → j < length l → precedes (key (get_or l i d)) (key (get_or l j d)) ≡ true
  ascends-at [] i j d a h w = absurd (omega (arith, w))
  ascends-at (y ∷ l) i zero d a h w = absurd (omega (arith, h))
  ascends-at (y ∷ l) zero (suc j) d a h w = below-has key y (get_or l j d) l a.0 (has-get_or l j d (omega arith))
  ascends-at (y ∷ l) (suc i) (suc j) d a h w = ascends-at l i j d a.1 (omega arith) (omega arith)

  -- so those that precede x come before those that do not
  pub ordered-parts : (x : A) (l : List A) → Ascending key l → IsPartitionedBy (λ y. precedes (key y) (key x)) l
  ordered-parts x l a i j d h w e =
      by (ltb i j)
      (λ f. less-trans (key (get_or l i d)) (key (get_or l j d)) (key x) (ascends-at l i j d a (ltb-true i j f) w) e)
      (λ f. let z : i ≡ j = omega (arith, ltb-false i j f) in rw z e)

  within-front : (P : A → Type 0) (l : List A) (p : ℕ) → ((k : ℕ) (d : A) → 0 ≤ k → k < p → P (get_or l k d)) → (r : A) → Has r (take p l) → P r
  within-front P l zero f r i = absurd i
  within-front P [] (suc p) f r i = absurd i
  within-front P (y ∷ l) (suc p) f r i = ⊎_elim (λ (e : r ≡ y). rw e (f 0 y (omega arith) (omega arith))) (λ (j : Has r (take p l)). within-front P l p (λ k d g h. f (suc k) d (omega arith) (omega arith)) r j) i

  within-rest : (P : A → Type 0) (l : List A) (p : ℕ) → ((k : ℕ) (d : A) → p ≤ k → k < length l → P (get_or l k d)) → (r : A) → Has r (drop p l) → P r
  within-rest P [] zero f r i = absurd i
  within-rest P (y ∷ l) zero f r i = ⊎_elim (λ (e : r ≡ y). rw e (f 0 y (omega arith) (omega arith))) (λ (j : Has r l). within-rest P l zero (λ k d g h. f (suc k) d (omega arith) (omega arith)) r j) i
  within-rest P [] (suc p) f r i = absurd i
  within-rest P (y ∷ l) (suc p) f r i = within-rest P l p (λ k d g h. f (suc k) d (omega arith) (omega arith)) r i

  pub point-place : (x : A) (l : List A) (p : ℕ) → p ≤ length l → IsPartitionPoint (λ y. precedes (key y) (key x) ≡ true) (λ y. precedes (key y) (key x) ≡ false) l p → Place key x l p
  point-place x l p h q =
      record { near = h; below = within-front (λ y. precedes (key y) (key x) ≡ true) l p q.0; above = within-rest (λ y. precedes (key y) (key x) ≡ false) l p q.1 }

  -- insertion goes behind what precedes
  pub inserted-behind : (x : A) (l : List A) (p : ℕ) → ((r : A) → Has r (take p l) → precedes (key r) (key x) ≡ true) → inserted key x l ≡ take p l ++ inserted key x (drop p l)
  unfolding inserted
  inserted-behind x l zero f = refl
  inserted-behind x [] (suc p) f = refl
  inserted-behind x (y ∷ l) (suc p) f =
      let e : precedes (key y) (key x) ≡ true = f y (inl refl) in
      let g : precedes (key x) (key y) ≡ false = less-asym (key y) (key x) e in
      rw (g, e) (ap (λ (t : List A). y ∷ t) (inserted-behind x l p (λ r i. f r (inr i))))

  -- an element that stands at the place stays as it is
  pub inserted-there : (x : A) (l : List A) → 0 < length l → ((r : A) → Has r l → precedes (key r) (key x) ≡ false) → (d : A) → precedes (key x) (key (get_or l 0 d)) ≡ false → inserted key x l ≡ l
  unfolding inserted
  inserted-there x [] h f d g = absurd (omega arith)
  inserted-there x (y ∷ l) h f d g = let e : precedes (key y) (key x) ≡ false = f y (inl refl) in rw (g, e)

  pub inserted-here : (x : A) (l : List A) (d : A) → (0 < length l → precedes (key x) (key (get_or l 0 d)) ≡ true) → inserted key x l ≡ x ∷ l
  unfolding inserted
  inserted-here x [] d f = refl
  inserted-here x (y ∷ l) d f = rw (f (omega arith))

-- The first elements of an array, one after the other: tests of some or every element, and what is filtered. Assumes nothing.
use mathlib.Core.Path.{◌≡◌, refl, ap}
use mathlib.Core.Bool.{Bool, true, false, ◌&&◌}
use mathlib.Core.List.{List, [], ◌∷◌, ◌++◌, append-nil}
use Prim.Native.Nat.{ℕ, ◌+◌, ◌≤◌, ◌<◌}
use native.Mathlib.Omega.{arith}
use lib.ListN.{length, take, get_or}
use lib.Seq.{length-take-le, get_or-take}
pub use Rattle.std.proofs.lemmas.List.{take_more}
use Rattle.lists.specs.Lists.{all, filter}
use Rattle.lists.proofs.Tests.{by, clash}
use Rattle.lists.proofs.Logic.{all-has, has-get_or}

module _ {A : Type 0} (f : A → Bool) where
  pub all_append : (s t : List A) → all f (s ++ t) ≡ (all f s && all f t)
  unfolding all
  all_append [] t = refl
  all_append (x ∷ s) t = by (f x) (λ e. rw e (all_append s t)) (λ e. rw e)

  pub filter-append : (s t : List A) → filter f (s ++ t) ≡ filter f s ++ filter f t
  unfolding filter
  filter-append [] t = refl
  filter-append (x ∷ s) t = by (f x) (λ e. rw e (ap (λ r. x ∷ r) (filter-append s t))) (λ e. rw e (filter-append s t))

  pub filter-length : (l : List A) → length (filter f l) ≤ length l
  unfolding filter
  filter-length [] = omega arith
  filter-length (x ∷ l) = let h = filter-length l in by (f x) (λ e. rw e (omega arith)) (λ e. rw e (omega arith))

  module _ (a : List A) (i : ℕ) (d : A) (h : i < length a) where
    pub filter-passed : f (get_or a i d) ≡ true → filter f (take (i + 1) a) ≡ filter f (take i a) ++ (get_or a i d ∷ [])
    unfolding filter
    filter-passed e = rw (take_more a i d h, filter-append, e)

    pub filter-left : f (get_or a i d) ≡ false → filter f (take (i + 1) a) ≡ filter f (take i a)
    unfolding filter
    filter-left e = rw (take_more a i d h, filter-append, e) (append-nil (filter f (take i a)))

  pub all-broken : (a : List A) (n i : ℕ) (d : A) → i < n → n ≤ length a → f (get_or a i d) ≡ false → all f (take n a) ≡ false
  all-broken a n i d h l e =
      let k : i < length (take n a) = omega (arith, length-take-le n a l) in
      by (all f (take n a)) (λ q. clash (all-has f (take n a) q (get_or (take n a) i d) (has-get_or (take n a) i d k)) (rw (get_or-take n a i d h) e)) (λ q. q)

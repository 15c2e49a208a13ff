-- Membership in a list of any type, and tests of some or every element. Assumes nothing.
use mathlib.Core.Path.{◌≡◌, refl}
use mathlib.Core.Bool.{Bool, true, false, ◌||◌}
use mathlib.Core.Logic.{inl, inr, ⊎_elim}
use mathlib.Core.List.{List, [], ◌∷◌, ◌++◌, map}
use Prim.Native.Nat.{ℕ, zero, suc, ◌<◌}
use native.Mathlib.Omega.{arith}
use lib.ListN.{length, get_or}
use Rattle.lists.specs.Lists.{any, all, filter, Has}
use Rattle.lists.proofs.Tests.{by, clash, or-no-l, or-no-r, and_l, and_r}

pub has-get_or : {A : Type 0} (l : List A) (i : ℕ) (d : A) → i < length l → Has (get_or l i d) l
has-get_or [] i d h = absurd (omega arith)
has-get_or (x ∷ l) zero d h = inl refl
has-get_or (x ∷ l) (suc i) d h = inr (has-get_or l i d (omega arith))

pub has-map : {A B : Type 0} (f : A → B) (a : A) (l : List A) → Has a l → Has (f a) (map f l)
has-map f a [] h = absurd h
has-map f a (x ∷ l) (inl e) = inl (rw e)
has-map f a (x ∷ l) (inr h) = inr (has-map f a l h)

-- an element of a mapped list is the image of one
pub has-mapped {ℓ} : {A B : Type 0} {P : Type ℓ} (f : A → B) (b : B) (l : List A) → Has b (map f l) → ((a : A) → Has a l → b ≡ f a → P) → P
has-mapped f b [] h g = absurd h
has-mapped f b (x ∷ l) (inl e) g = g x (inl refl) e
has-mapped f b (x ∷ l) (inr h) g = has-mapped f b l h (λ a m e. g a (inr m) e)

-- a list that is mapped and mapped back
pub map-back : {A B : Type 0} (f : A → B) (g : B → A) (l : List A) → ((x : A) → Has x l → g (f x) ≡ x) → map g (map f l) ≡ l
map-back f g [] h = refl
map-back f g (x ∷ l) h = let p : g (f x) ≡ x = h x (inl refl) in let q : map g (map f l) ≡ l = map-back f g l (λ y m. h y (inr m)) in cc

pub has-append-by {ℓ} : {A : Type 0} {P : Type ℓ} (x : A) (s t : List A) → Has x (s ++ t) → (Has x s → P) → (Has x t → P) → P
has-append-by x [] t h f g = g h
has-append-by x (y ∷ s) t (inl e) f g = f (inl e)
has-append-by x (y ∷ s) t (inr h) f g = has-append-by x s t h (λ m. f (inr m)) g

module _ {A : Type 0} (f : A → Bool) where
  pub any_append : (s t : List A) → any f (s ++ t) ≡ (any f s || any f t)
  unfolding any
  any_append [] t = refl
  any_append (x ∷ s) t = by (f x) (λ e. rw e) (λ e. rw e (any_append s t))

  pub any_none : (s : List A) → ((r : A) → Has r s → f r ≡ false) → any f s ≡ false
  unfolding any
  any_none [] h = refl
  any_none (x ∷ s) h = rw (h x (inl refl)) (any_none s (λ r m. h r (inr m)))

  pub any-no : (s : List A) → any f s ≡ false → (r : A) → Has r s → f r ≡ false
  unfolding any
  any-no [] h r m = absurd m
  any-no (x ∷ s) h r (inl e) = rw e (or-no-l (f x) (any f s) h)
  any-no (x ∷ s) h r (inr m) = any-no s (or-no-r (f x) (any f s) h) r m

  pub any-by {ℓ} : {P : Type ℓ} (s : List A) → any f s ≡ true → ((r : A) → Has r s → f r ≡ true → P) → P
  unfolding any
  any-by [] h g = clash h refl
  any-by (x ∷ s) h g = by (f x) (λ e. g x (inl refl) e) (λ e. any-by s (rw e at h) (λ r m. g r (inr m)))

  pub any-has : (s : List A) (r : A) → Has r s → f r ≡ true → any f s ≡ true
  unfolding any
  any-has [] r h e = absurd h
  any-has (x ∷ s) r (inl q) e = let g : f x ≡ true = rw q at e in rw g
  any-has (x ∷ s) r (inr h) e = by (f x) (λ g. rw g) (λ g. rw g (any-has s r h e))

  pub all-has : (s : List A) → all f s ≡ true → (r : A) → Has r s → f r ≡ true
  unfolding all
  all-has [] h r m = absurd m
  all-has (x ∷ s) h r (inl e) = rw e (and_l (f x) (all f s) h)
  all-has (x ∷ s) h r (inr m) = all-has s (and_r (f x) (all f s) h) r m

  pub all-by : (s : List A) → ((r : A) → Has r s → f r ≡ true) → all f s ≡ true
  unfolding all
  all-by [] h = refl
  all-by (x ∷ s) h = rw (h x (inl refl)) (all-by s (λ r m. h r (inr m)))

  -- what is filtered
  pub filter-from : (l : List A) (x : A) → Has x (filter f l) → Has x l × (f x ≡ true)
  unfolding filter
  filter-from [] x h = absurd h
  filter-from (y ∷ l) x h =
      by (f y)
      (λ e. ⊎_elim (λ (q : x ≡ y). (inl q, rw q e)) (λ (q : Has x (filter f l)). let r = filter-from l x q in (inr r.0, r.1)) (rw e at h))
      (λ e. let r = filter-from l x (rw e at h) in (inr r.0, r.1))

  pub filter-into : (l : List A) (x : A) → Has x l → f x ≡ true → Has x (filter f l)
  unfolding filter
  filter-into [] x h e = absurd h
  filter-into (y ∷ l) x (inl q) e = let g : f y ≡ true = rw q at e in rw g (inl q)
  filter-into (y ∷ l) x (inr h) e = let r = filter-into l x h e in by (f y) (λ g. rw g (inr r)) (λ g. rw g r)

-- The beginnings of a list. Assumes nothing.
use mathlib.Core.Path.{◌≡◌, refl, ap, ◌∙◌}
use mathlib.Core.Logic.{inl, inr, ⊎_elim}
use mathlib.Core.List.{List, [], ◌∷◌, ◌++◌, map, map-append, map-map}
use Prim.Native.Nat.{ℕ, zero, suc, ◌≤◌}
use native.Mathlib.Omega.{arith}
use lib.ListN.{length, take, get_or, length-map}
use Rattle.lists.specs.Lists.{Has}
use Rattle.lists.proofs.Lists.{get_or-mapped}
use Rattle.lists.proofs.Logic.{has-mapped}
use Rattle.voting_count.specs.Tallied.{beginnings}

module _ {A : Type 0} where
  pub beginnings-more : (l : List A) (x : A) → beginnings (l ++ (x ∷ [])) ≡ beginnings l ++ ((l ++ (x ∷ [])) ∷ [])
  unfolding beginnings
  beginnings-more [] x = refl
  beginnings-more (y ∷ l) x =
      ap (λ (t : List (List A)). [] ∷ t) (ap (map (λ b. y ∷ b)) (beginnings-more l x) ∙ map-append (λ b. y ∷ b) (beginnings l) ((l ++ (x ∷ [])) ∷ []))

  pub beginnings-length : (l : List A) → length (beginnings l) ≡ suc (length l)
  unfolding beginnings
  beginnings-length [] = refl
  beginnings-length (x ∷ l) = ap suc (length-map (beginnings l) (λ b. x ∷ b) ∙ beginnings-length l)

  -- the k-th is the first k elements
  pub beginning-at : (l : List A) (k : ℕ) (d : List A) → k ≤ length l → get_or (beginnings l) k d ≡ take k l
  unfolding beginnings
  beginning-at [] zero d h = refl
  beginning-at [] (suc k) d h = absurd (omega arith)
  beginning-at (x ∷ l) zero d h = refl
  beginning-at (x ∷ l) (suc k) d h =
      get_or-mapped (λ b. x ∷ b) (beginnings l) k [] d (omega (arith, beginnings-length l)) ∙ ap (λ (b : List A). x ∷ b) (beginning-at l k [] (omega arith))

  -- each has only elements of the list
  pub beginnings-within : (l b : List A) → Has b (beginnings l) → (x : A) → Has x b → Has x l
  unfolding beginnings
  beginnings-within [] b (inl e) x m = rw e at m
  beginnings-within [] b (inr n) x m = absurd n
  beginnings-within (y ∷ l) b (inl e) x m = absurd (rw e at m)
  beginnings-within (y ∷ l) b (inr n) x m =
      has-mapped (λ c. y ∷ c) b (beginnings l) n (λ c o q. ⊎_elim (λ w. inl w) (λ w. inr (beginnings-within l c o x w)) (rw q at m))

  -- what gives the same of the first k elements, whatever k, gives the same of each beginning
  pub beginnings-alike : {B : Type 0} (f g : List A → B) (l : List A) → ((k : ℕ) → f (take k l) ≡ g (take k l)) → map f (beginnings l) ≡ map g (beginnings l)
  unfolding beginnings
  beginnings-alike f g [] h = ap (λ (y : _). y ∷ []) (h 0)
  beginnings-alike f g (x ∷ l) h =
      rw (h 0, map-map f (λ b. x ∷ b) (beginnings l), map-map g (λ b. x ∷ b) (beginnings l), beginnings-alike (λ b. f (x ∷ b)) (λ b. g (x ∷ b)) l (λ k. h (suc k))) refl

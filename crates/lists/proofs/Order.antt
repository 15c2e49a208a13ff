-- The order of keys: it is strict and transitive, and of two keys of one length one precedes the other unless they are equal. Assumes nothing.
use mathlib.Core.Path.{◌≡◌, refl, sym, ◌∙◌}
use mathlib.Core.Bool.{true, false}
use mathlib.Core.Logic.{◌⊎◌, inl, inr, ⊎_elim}
use mathlib.Core.List.{List, [], ◌∷◌}
use Prim.Native.Nat.{ℕ, ◌≤◌, ◌<◌}
use native.Mathlib.Omega.{arith}
use borrow.Author.Tests.{ltb-true, ltb-false, lt-ltb, le-ltb}
use lib.Dec.{ltb}
use lib.ListN.{length}
use Rattle.lists.proofs.Lists.{by, clash}
use Rattle.lists.specs.Keyed.{precedes}

none-less : (b : List ℕ) → precedes [] b ≡ true → ⊥
unfolding precedes
none-less b e = clash e refl

less_none : (x : ℕ) (a : List ℕ) → precedes (x ∷ a) [] ≡ true → ⊥
unfolding precedes
less_none x a e = clash e refl

-- three cases of two numbers
three : (x y : ℕ) → (x < y) ⊎ ((y < x) ⊎ (x ≡ y))
three x y =
    by (ltb x y) (λ e. inl (ltb-true x y e))
    (λ e. by (ltb y x) (λ f. inr (inl (ltb-true y x f))) (λ f. inr (inr (omega (arith, ltb-false x y e, ltb-false y x f)))))

-- the cases of two keys' first numbers
module _ (x y : ℕ) (a b : List ℕ) where
  first-less : x < y → precedes (x ∷ a) (y ∷ b) ≡ true
  unfolding precedes
  first-less h = rw (lt-ltb x y h)

  first_more : y < x → precedes (x ∷ a) (y ∷ b) ≡ false
  unfolding precedes
  first_more h = let l : y ≤ x = omega arith in rw (le-ltb x y l, lt-ltb y x h)

  first-same : x ≡ y → precedes (x ∷ a) (y ∷ b) ≡ precedes a b
  unfolding precedes
  first-same e =
      let l : x ≤ y = omega arith in
      let m : y ≤ x = omega arith in
      rw (le-ltb x y m, le-ltb y x l)

pub less-irrefl : (a : List ℕ) → precedes a a ≡ false
unfolding precedes
less-irrefl [] = refl
less-irrefl (x ∷ a) = first-same x x a a refl ∙ less-irrefl a

pub less-trans : (a b c : List ℕ) → precedes a b ≡ true → precedes b c ≡ true → precedes a c ≡ true
less-trans [] b c p q = absurd (none-less b p)
less-trans (x ∷ a) [] c p q = absurd (none-less c q)
less-trans (x ∷ a) (y ∷ b) [] p q = absurd (less_none y b q)
less-trans (x ∷ a) (y ∷ b) (z ∷ c) p q =
    ⊎_elim
    (λ (h : x < y). ⊎_elim
    (λ (k : y < z). first-less x z a c (omega arith))
    (λ r. ⊎_elim (λ (k : z < y). clash q (first_more y z b c k)) (λ (k : y ≡ z). first-less x z a c (omega arith)) r)
    (three y z))
    (λ r. ⊎_elim
    (λ (h : y < x). clash p (first_more x y a b h))
    (λ (h : x ≡ y). ⊎_elim
    (λ (k : y < z). first-less x z a c (omega arith))
    (λ r. ⊎_elim (λ (k : z < y). clash q (first_more y z b c k))
    (λ (k : y ≡ z). first-same x z a c (h ∙ k) ∙ less-trans a b c (sym (first-same x y a b h) ∙ p) (sym (first-same y z b c k) ∙ q)) r)
    (three y z))
    r)
    (three x y)

pub less-total : (a b : List ℕ) → length a ≡ length b → precedes a b ≡ false → precedes b a ≡ false → a ≡ b
less-total [] [] l p q = refl
less-total [] (y ∷ b) l p q = absurd (omega arith)
less-total (x ∷ a) [] l p q = absurd (omega arith)
less-total (x ∷ a) (y ∷ b) l p q =
    ⊎_elim
    (λ (h : x < y). clash (first-less x y a b h) p)
    (λ r. ⊎_elim
    (λ (h : y < x). clash (first-less y x b a h) q)
    (λ (h : x ≡ y).
    let e : a ≡ b = less-total a b (omega arith) (sym (first-same x y a b h) ∙ p) (sym (first-same y x b a (sym h)) ∙ q) in
    cc)
    r)
    (three x y)

-- keys of one number
pub less_one : (x y : ℕ) → precedes (x ∷ []) (y ∷ []) ≡ ltb x y
unfolding precedes
less_one x y = by (ltb x y) (λ e. rw e) (λ e. by (ltb y x) (λ f. rw (e, f)) (λ f. rw (e, f)))

-- The common beginning of two rows of names: it is one, and there is no longer one.
use mathlib.Core.Path.{◌≡◌, refl}
use mathlib.Core.List.{List, [], ◌∷◌, map}
use Prim.Native.Nat.{ℕ, suc, ◌≤◌}
use native.Mathlib.Omega.{arith}
use lib.Dec.{eqb}
use lib.ListN.{length, take}
use borrow.Author.Tests.{eqb-true}
use Rattle.lists.proofs.Lists.{by}
use Rattle.pages.specs.Steps.{common_beginning, Agree}

pub common-left : (s t : List ℕ) → common_beginning s t ≤ length s
unfolding common_beginning
common-left [] t = omega arith
common-left (x ∷ s) [] = omega arith
common-left (x ∷ s) (y ∷ t) = by (eqb x y) (λ e. rw e (omega (arith, common-left s t))) (λ e. rw e (omega arith))

pub common-right : (s t : List ℕ) → common_beginning s t ≤ length t
unfolding common_beginning
common-right [] t = omega arith
common-right (x ∷ s) [] = omega arith
common-right (x ∷ s) (y ∷ t) = by (eqb x y) (λ e. rw e (omega (arith, common-right s t))) (λ e. rw e (omega arith))

-- rows that agree have the edits of their common beginning in common
pub common-take : {A : Type 0} (name : A → ℕ) (s t : List A) → Agree name s t
    → take (common_beginning (map name s) (map name t)) s ≡ take (common_beginning (map name s) (map name t)) t
unfolding common_beginning Agree
common-take name [] t h = refl
common-take name (x ∷ s) [] h = refl
common-take name (x ∷ s) (y ∷ t) h =
    by (eqb (name x) (name y))
    (λ e. let q : x ≡ y = h 0 x (omega arith) (omega arith) (eqb-true (name x) (name y) e) in
    let r = common-take name s t (λ k d a b. h (suc k) d (omega arith) (omega arith)) in
    rw e (λ i. q i ∷ r i)) (λ e. rw e)

-- The place of a name in a row that starts with INIT: 0 tells that it does not stand among the others. Assumes nothing.
use mathlib.Core.Path.{◌≡◌}
use mathlib.Core.Bool.{true, false}
use mathlib.Core.List.{List, ◌∷◌}
use Prim.Native.Nat.{ℕ}
use native.Mathlib.Omega.{arith}
use borrow.Author.Tests.{ne_eqb}
use Rattle.lists.specs.Lists.{mem, index_of}
use Rattle.lists.proofs.Lists.{by, is-by}
use Rattle.graph.specs.links.Marks.{place_in}

module _ (l : List ℕ) (x : ℕ) where
  pub place_none : (x ≡ 0 → mem x l ≡ false) → place_in (0 ∷ l) x ≡ 0 → mem x l ≡ false
  unfolding place_in mem index_of
  place_none n h =
      is-by x 0 n
      (λ e. by (mem x l) (λ m. absurd (let z = rw (ne_eqb x 0 e, m) at h in omega arith)) (λ m. m))

  pub place-there : (place_in (0 ∷ l) x ≡ 0 → ⊥) → mem x l ≡ true
  unfolding place_in mem index_of
  place-there h =
      is-by x 0 (λ e. absurd (h (rw e)))
      (λ e. by (mem x l) (λ m. m) (λ m. absurd (h (rw (ne_eqb x 0 e, m)))))

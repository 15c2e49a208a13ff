-- The test of a pair by its indexes, and the pairs of a stored record. Assumes nothing.
use mathlib.Core.Path.{◌≡◌, ap, ◌∙◌}
use mathlib.Core.Bool.{Bool, false, not, ◌&&◌, ◌||◌}
use mathlib.Core.List.{List, ◌++◌}
use Prim.Native.Nat.{ℕ, min, ◌≤◌, ◌<◌}
use native.Mathlib.Omega.{arith}
use borrow.Author.Tests.{eq-eqb, ne_eqb}
use lib.Dec.{eqb}
use lib.ListN.{length, take, get_or}
use lib.Seq.{take_at}
use Rattle.record.specs.declared.Constraint.{Constraint}
use Rattle.lists.specs.Lists.{◌among◌, index_of, filter, Has}
use Rattle.record.specs.Record.{Record, names, notafter, WellFormed}
use Rattle.record.specs.Stored.{constraint_limit}
use Rattle.lists.proofs.Lists.{mem_index}
use Rattle.lists.proofs.Front.{filter-length}
use Rattle.graph.proofs.indexes.Resolving as resolving
use Rattle.graph.specs.links.Marks.{name_at}
use Rattle.graph.proofs.links.Names.{get_or-place, place-known}
use Rattle.graph.specs.links.Resolved.{Resolved}
use Rattle.graph.specs.indexes.Indexed.{Indexed}
use Rattle.voting.specs.Proposal.{unordered}
use Rattle.voting.proofs.Joined.{in-has}

abbrev pub is_unordered : Record → Constraint → Bool
is_unordered R c = eqb c.rule 2 && not (notafter R c.left c.right || notafter R c.right c.left)

-- what the test tells of a constraint
abbrev pub TellsUnordered : List ℕ → List ℕ → Constraint → Bool → Type 0
TellsUnordered index rows c b =
    (R : Record) → Resolved R rows → Indexed R index → c.left among names R → c.right among names R → b ≡ is_unordered R c

-- the index of a known name
module _ (R : Record) (table : List ℕ) (f : Indexed R table) (x : ℕ) (h : x among names R) {i : ℕ} (e : i ≡ get_or table x 0) where
  index_at : i ≡ index_of x (names R)
  index_at = e ∙ f x ∙ place-known x (names R) h

  pub index-low : i < length (names R)
  index-low = let a = index_at in let b = mem_index x (names R) h in omega arith

  pub index-name : name_at R i ≡ x
  index-name = ap (name_at R) index_at ∙ get_or-place x (names R) h

-- test by test
module _ (R : Record) (c : Constraint) where
  pub other-rule : (c.rule ≡ 2 → ⊥) → false ≡ is_unordered R c
  other-rule h = rw (ne_eqb c.rule 2 h)

  pub order-rows : c.rule ≡ 2 → {b : Bool} → b ≡ (notafter R c.left c.right || notafter R c.right c.left) → not b ≡ is_unordered R c
  order-rows h e = rw (eq-eqb c.rule 2 h, e)

-- a constraint of a record has known ends
module _ (R : Record) (w : WellFormed R) (c : Constraint) (m : Has c R.constraints) where
  pub pair-left-known : c.left among names R
  pair-left-known = resolving.left-known w _ _ _ (in-has c R.constraints m)

  pub pair-right-known : c.right among names R
  pair-right-known = resolving.right-known w _ _ _ (in-has c R.constraints m)

pub order-read : (R : Record) (x y a b : ℕ) {r : Bool} → r ≡ (notafter R (name_at R a) (name_at R b) || notafter R (name_at R b) (name_at R a)) → name_at R a ≡ x → name_at R b ≡ y → r ≡ (notafter R x y || notafter R y x)
order-read R x y a b e f g = rw (f, g) at e

-- the constraints of a record that pass the test, at the beginning of an array
pub pairs-selected : (R : Record) (l rows rest : List Constraint) (n m : ℕ) → length R.constraints ≤ constraint_limit → l ≡ R.constraints
    → (n ≡ length (filter (is_unordered R) l)) × (rows ≡ filter (is_unordered R) l ++ rest) → m ≡ min n constraint_limit → take m rows ≡ unordered R
unfolding unordered
pairs-selected R l rows rest n m few e s k =
    let f : filter (is_unordered R) l ≡ filter (is_unordered R) R.constraints = ap (filter (is_unordered R)) e in
    let h = filter-length (is_unordered R) R.constraints in
    let q : length (filter (is_unordered R) l) ≡ m = omega (arith, s.0, k, ap length f) in
    rw s.1 (take_at (filter (is_unordered R) l) rest m q) ∙ f

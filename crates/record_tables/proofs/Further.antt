-- The grounds 5, 6 and 7 of a constraint, by their tests. Assumes nothing.
use mathlib.Core.Path.{◌≡◌, refl, sym}
use mathlib.Core.Bool.{Bool, true, false, ◌&&◌, ◌||◌}
use mathlib.Core.List.{List, ◌∷◌}
use Prim.Native.Nat.{ℕ, ◌≤◌}
use native.Mathlib.Omega.{arith}
use lib.Dec.{eqb}
use lib.ListN.{get_or}
use Rattle.lists.specs.Lists.{mem}
use Rattle.record_rows.specs.row.Row.{Row, cell, constraint_cells}
use Rattle.record_rows.proofs.grounds.Small.{given-small, first_small}
use Rattle.record_tables.specs.Table.{unknown, pair_not_allowed, decision, constraint_further}
use Rattle.record_tables.specs.Checked.{MarksNames, marked_further}

pub or-four : (a b c d : Bool) → (((a || b) || c) || d) ≡ (a || (b || (c || d)))
or-four true b c d = refl
or-four false true c d = refl
or-four false false c d = refl

module _ (names : List ℕ) (adding : Bool) (row : Row) (marks : List ℕ) (k : MarksNames marks names) where
  -- the grounds of a row, by the marks of its sides
  pub further_is : marked_further marks adding row ≡ constraint_further names adding row
  unfolding constraint_further unknown marked_further
  further_is =
      let e : mem (cell row 0) (0 ∷ names) ≡ eqb (get_or marks (cell row 0) 0) 1 = sym (k (cell row 0)) in
      let f : mem (cell row 2) (0 ∷ names) ≡ eqb (get_or marks (cell row 2) 0) 1 = sym (k (cell row 2)) in
      rw (e, f)

-- 7 is the greatest of their numbers
pub further-small : (m : ℕ) → 7 ≤ m → (names : List ℕ) (adding : Bool) (row : Row) → constraint_further names adding row ≤ m
unfolding constraint_further
further-small m h names adding row =
    let c = constraint_cells row in
    first_small m 5 (unknown names c.left c.right) _ (omega arith)
    (first_small m 6 (pair_not_allowed c.left c.rule c.right) _ (omega arith) (given-small m 7 (adding && decision c.left c.rule c.right) h))

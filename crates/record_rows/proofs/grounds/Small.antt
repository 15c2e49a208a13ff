-- How great the number of a refusal is: none is above a bound that each of its grounds keeps. Assumes nothing.
use mathlib.Core.Path.{◌≡◌}
use mathlib.Core.Bool.{Bool, true, false, not}
use mathlib.Core.List.{[], ◌∷◌, ◌++◌}
use Prim.Native.Nat.{ℕ, ◌≤◌}
use native.Mathlib.Omega.{arith}
use lib.Dec.{eqb}
use Rattle.lists.proofs.Lists.{by}
use Rattle.record_rows.specs.row.Row.{Row}
use Rattle.record_rows.specs.grounds.Ground.{Rows, TableKind, no_place, other_body, misplaced, row_fault, first_fault, ◌given◌, ◌orelse◌}

module _ (m : ℕ) where
  pub orelse-small : (a b : ℕ) → a ≤ m → b ≤ m → (a orelse b) ≤ m
  orelse-small a b p q = by (eqb a 0) (λ (e : eqb a 0 ≡ true). rw e q) (λ (e : eqb a 0 ≡ false). rw e p)

  pub given-small : (n : ℕ) (b : Bool) → n ≤ m → (n given b) ≤ m
  given-small n true h = h
  given-small n false h = omega arith

  -- a number that is given, or a later one
  pub first_small : (n : ℕ) (b : Bool) (later : ℕ) → n ≤ m → later ≤ m → (n given b orelse later) ≤ m
  first_small n b later p q = orelse-small (n given b) later (given-small n b p) q

  -- 13 is the greatest number of a row besides its kind's own
  pub row-fault-small : 13 ≤ m → (K : TableKind) (joined above : Rows) (row : Row) → K.further row ≤ m → row_fault K joined above row ≤ m
  unfolding row_fault
  row-fault-small h K joined above row f =
      first_small 2 (not (K.in_range row)) _ (omega arith)
      (first_small 3 (no_place K.key K.limit joined above row) _ (omega arith)
      (first_small 4 (other_body K.key joined above row) _ (omega arith)
      (orelse-small (K.further row) (13 given misplaced K.key above row) f (given-small 13 (misplaced K.key above row) h))))

  pub first-fault-small : (f : Rows → Row → ℕ) → ((above : Rows) (row : Row) → f above row ≤ m) → (above t : Rows) → first_fault f above t ≤ m
  unfolding first_fault
  first-fault-small f h above [] = omega arith
  first-fault-small f h above (row ∷ t) = orelse-small (f above row) (first_fault f (above ++ (row ∷ [])) t) (h above row) (first-fault-small f h (above ++ (row ∷ [])) t)

-- Inner: how two stored tables are united, element by element; what a union is says the crate table. Assumes nothing.
use Rattle.std.specs.Prelude.{cond, List, [], ◌∷◌, Option, Some, None, ℕ, ◌≤◌, length}
use Rattle.record.specs.Stored.{padded}
use Rattle.lists.specs.Keyed.{precedes, Ascending, united}
use Rattle.record_union.specs.declared.Choice.{Choice}
use Rattle.record_union.specs.declared.Choice.TheVariants.{Own, Joining, Both}

-- two tables in order whose union has places
pub record Unites {A : Type 0} (key : A → List ℕ) (limit : ℕ) (own joining : List A) : Type 0 where
  pub own_order : Ascending key own
  pub joining_order : Ascending key joining
  pub places : length (united key own joining) ≤ limit

-- a table as it is stored, and how many elements it has
abbrev pub united_in : {A : Type 0} → ℕ → A → List A → List A × ℕ
united_in limit filler l = (padded limit filler l, length l)

-- which element comes next where so much is left of both
unfoldable pub chosen : {A : Type 0} → (A → List ℕ) → List A → List A → Option (Choice A)
chosen key [] [] = None
chosen key [] (y ∷ joining) = Some (Joining y)
chosen key (x ∷ own) [] = Some (Own x)
chosen key (x ∷ own) (y ∷ joining) = cond (precedes (key x) (key y)) (Some (Own x)) (cond (precedes (key y) (key x)) (Some (Joining y)) (Some (Both x)))

-- A kind of table by what its elements' trait says of it. Assumes nothing.
use mathlib.Core.Path.{◌≡◌}
use mathlib.Core.Bool.{Bool}
use Prim.Native.Nat.{ℕ, ◌≤◌}
use lib.ListN.{length}
use Rattle.record_rows.specs.row.Row.{Row}
use Rattle.record_rows.proofs.grounds.Loop.{Elements}

abbrev pub elements_of : (A : Type 0) (row_of : A → Row) (key limit width : ℕ) → (Row → Bool) → (Row → ℕ) → key ≤ width → ((x : A) → length (row_of x) ≡ width) → Elements
elements_of A row_of key limit width fits further narrow wide =
    record { A = A; kind = record { key = key; limit = limit; in_range = fits; further = further }; row_of = row_of; width = width; narrow = narrow; wide = wide }

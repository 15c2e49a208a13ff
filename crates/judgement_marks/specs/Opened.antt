-- Inner: the walk over the noncommuting pairs of an edit. Assumes nothing.
use Rattle.std.specs.Prelude.{◌≡◌, true, false, List, ◌⊎◌, ℕ, ◌≤◌, ◌<◌, length, get_or}
use Rattle.lists.specs.Lists.{index_of}
use Rattle.record.specs.Record.{Record, names, has}
use Rattle.record.specs.Judgement.{ordered, serialised}
use Rattle.graph.specs.links.Marks.{name_at}
use Rattle.graph.specs.links.Reach.{On}

-- What the pairs with the right edit b make of the marks m of the edits that are not serialised.
pub record Opened (R : Record) (b : ℕ) (m m' : List ℕ) : Type 0 where
  pub bits : ((y : ℕ) → get_or m y 0 ≤ 1) → (y : ℕ) → get_or m' y 0 ≤ 1
  pub kept : (y : ℕ) → On m y → On m' y
  pub sound : (y : ℕ) → On m' y → On m y ⊎ ((y < length (names R)) × (serialised R (name_at R y) ≡ false))
  pub complete : (a : ℕ) → has a 2 (name_at R b) R.constraints ≡ true → ordered R a (name_at R b) ≡ false → On m' (index_of a (names R)) × On m' b

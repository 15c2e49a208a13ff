-- Inner: the index of each name of a record, in a table by name. Assumes nothing.
use Rattle.std.specs.Prelude.{◌≡◌, List, ℕ, get_or}
use Rattle.record.specs.Record.{Record, names}
use Rattle.graph.specs.links.Marks.{place_in}

-- the table has the index of each name, and 0 for all that are none
abbrev pub Indexed : Record → List ℕ → Type 0
Indexed R table = (x : ℕ) → get_or table x 0 ≡ place_in (names R) x

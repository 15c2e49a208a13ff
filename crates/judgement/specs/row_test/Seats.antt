-- Inner: document 01, "A row of names is a sound schedule": the place of each edit in the row that is tested. Assumes nothing.
use Rattle.std.specs.Prelude.{◌≡◌, Bool, ◌&&◌, List, ℕ, get_or}
use Rattle.lists.specs.Lists.{all, mem, index_of, position_of, distinct, ◌among◌}
use Rattle.record.specs.Record.{Record, names}

-- the seats of the record's edits: their positions in the row
abbrev pub Seated : Record → List ℕ → List ℕ → Type 0
Seated R row places = (x : ℕ) → x among names R → get_or places (index_of x (names R)) 0 ≡ position_of x row

-- names are known and distinct
unfoldable pub known_apart : Record → List ℕ → Bool
known_apart R row = all (λ x. mem x (names R)) row && distinct row

-- Document 01, "Entries and pages": cells, entries and what an edit makes of an entry, for any number of cells. Assumes nothing.
use Rattle.std.specs.Prelude.{true, false, cond, ℕ, set, replicate, Some, None}
use Rattle.record.specs.declared.Body.{Body}
use Rattle.record.specs.declared.Body.TheVariants.{Insert, Set, Remove}
use Rattle.record.specs.declared.Field.{Field}
pub use Rattle.record.specs.Record.{place_of}
use Rattle.catalogue.specs.declared.Entry.{Entry}

-- an absent entry has blank cells; a blank cell is none
abbrev pub absent_entry : (n : ℕ) → Entry n
absent_entry n = record { present = false; cells = replicate n None }

-- Insert makes an absent entry present, all blank. Set fills the cell of a field of a present entry. Remove makes it absent. Otherwise nothing changes.
abbrev pub run_body : (n : ℕ) → (Field → ℕ) → Body → Entry n → Entry n
run_body n cell (Insert place) entry = cond entry.present entry (record { present = true; cells = replicate n None })
run_body n cell (Set place field value) entry =
    cond entry.present (record { present = true; cells = set entry.cells (cell field) (Some value) }) entry
run_body n cell (Remove place) entry = absent_entry n

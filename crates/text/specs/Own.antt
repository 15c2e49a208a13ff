-- Inner: a row of a text in the record's own order, as the code judges it below those above it. Assumes nothing.
use Rattle.std.specs.Prelude.{Bool, ℕ}
use Rattle.record_rows.specs.row.Row.{Row}
use Rattle.record_rows.specs.grounds.Ground.{TableKind}

-- the kind of a table, of which it is known what is left to say of a row
abbrev pub row_kind : ℕ → ℕ → (Row → Bool) → ℕ → TableKind
row_kind key places fits further = record { key = key; limit = places; in_range = fits; further = λ row. further }

-- What the lines of a call log lend: nine records as tables of rows with any numbers, a roll, and a row to be tested. Assumes nothing.
use Rattle.std.specs.Prelude.{Bool, not, ◌&&◌, cond, List, [], ◌∷◌, ◌++◌, ℕ, ◌+◌, eqb, leb, ltb, length}
use Rattle.record.specs.Record.{Record}
use Rattle.record_rows.specs.row.Row.{Row, bench_limit}
use Rattle.record_rows.specs.grounds.Ground.{Rows, ◌given◌, ◌orelse◌}
use Rattle.record_tables.specs.Table.{edit_rows, constraint_rows}
use Rattle.record.specs.Stored.{edit_limit, constraint_limit}
use Rattle.voting.specs.declared.RollRow.{RollRow}

-- Record 0 is loose, records 1 to 8 are the proposals by bench.
pub record Lent : Type 0 where
  pub edits : ℕ → Rows
  pub constraints : ℕ → Rows
  pub roll : List RollRow
  pub row : List ℕ

unfoldable pub nothing_lent : Lent
nothing_lent = record { edits = λ k. []; constraints = λ k. []; roll = []; row = [] }

abbrev pub lent_records : ℕ
lent_records = bench_limit + 1

abbrev pub is_lent : ℕ → Bool
is_lent k = ltb k lent_records

-- table k becomes these rows
unfoldable pub with : ℕ → Rows → (ℕ → Rows) → ℕ → Rows
with k rows tables j = cond (eqb j k) rows (tables j)

-- One more row than can join any record: a longer table has its fault at or before this row.
abbrev pub edit_places : ℕ
edit_places = edit_limit + 1

abbrev pub constraint_places : ℕ
constraint_places = constraint_limit + 1

-- one more than a roll without fault can have: with this row it is faulty, and later rows change no answer
abbrev pub roll_places : ℕ
roll_places = bench_limit + 1

-- one more than a sound schedule can have
abbrev pub row_places : ℕ
row_places = edit_limit + 2

-- 2: no such record; 3: a new row has no place left
unfoldable pub rows_fault : ℕ → (ℕ → Rows) → ℕ → ℕ
rows_fault places tables k = 2 given not (is_lent k) orelse 3 given leb places (length (tables k))

unfoldable pub added : ℕ → (ℕ → Rows) → ℕ → Row → ℕ → Rows
added places tables k row = cond (eqb (rows_fault places tables k) 0) (with k (tables k ++ (row ∷ [])) tables) tables

-- What each line that lends comes to, and the number of its refusal. A refused one changes nothing.
unfoldable pub with_edit : Lent → ℕ → Row → Lent
with_edit L k row = record { edits = added edit_places L.edits k row; constraints = L.constraints; roll = L.roll; row = L.row }

unfoldable pub with_constraint : Lent → ℕ → Row → Lent
with_constraint L k row = record { edits = L.edits; constraints = added constraint_places L.constraints k row; roll = L.roll; row = L.row }

-- record k is this one
unfoldable pub with_record : Lent → ℕ → Record → Lent
with_record L k R =
    cond (is_lent k)
    (record { edits = with k (edit_rows R) L.edits; constraints = with k (constraint_rows R) L.constraints; roll = L.roll; row = L.row })
    L

abbrev pub record_number : ℕ → ℕ
record_number k = 2 given not (is_lent k)

-- numbers of 8 bits are below it, and weights, which have 16
abbrev pub byte_limit : ℕ
byte_limit = 256

abbrev pub weight_limit : ℕ
weight_limit = 65536

-- a row of the roll: its numbers fit a bench and a weight
unfoldable pub seat_number : ℕ → ℕ → ℕ
seat_number bench weight = 2 given not (ltb bench byte_limit && ltb weight weight_limit)

unfoldable pub with_seat : Lent → ℕ → ℕ → Lent
with_seat L bench weight =
    cond (eqb (seat_number bench weight) 0)
    (record { edits = L.edits; constraints = L.constraints; roll = L.roll ++ (record { bench = bench; weight = weight } ∷ []); row = L.row })
    L

unfoldable pub without_roll : Lent → Lent
without_roll L = record { edits = L.edits; constraints = L.constraints; roll = []; row = L.row }

-- a name of the row to be tested
unfoldable pub name_number : Lent → ℕ
name_number L = 3 given leb row_places (length L.row)

unfoldable pub with_name : Lent → ℕ → Lent
with_name L name =
    cond (eqb (name_number L) 0) (record { edits = L.edits; constraints = L.constraints; roll = L.roll; row = L.row ++ (name ∷ []) }) L

unfoldable pub without_row : Lent → Lent
without_row L = record { edits = L.edits; constraints = L.constraints; roll = L.roll; row = [] }

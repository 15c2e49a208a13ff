-- Document 01, "What is turned away": the grounds of what is asked about an edit of a record, and what is known of it without one. Assumes nothing.
use Rattle.std.specs.Prelude.{◌≡◌, not, ℕ, ◌<◌, length, get_or}
use Rattle.lists.specs.Lists.{mem, ◌among◌}
use Rattle.record.specs.Record.{Record, written}
use Rattle.record.specs.Judgement.{sound}
use Rattle.record_rows.specs.row.Row.{is_name}
use Rattle.record_rows.specs.grounds.Ground.{Rows, ◌given◌, ◌orelse◌}
use Rattle.record_tables.specs.Table.{empty_tables, decoded, lent_fault}

-- the number: 2, no edit has such a name (0 is INIT's); 5, the record does not know it
unfoldable pub named_fault : Record → ℕ → ℕ
named_fault R edit = 2 given not (is_name edit) orelse 5 given not (mem edit (written R))

-- of an edit of a lent record: its rows first; then that of the edit, and 8, the record is not sound
unfoldable pub lent_edit_fault : Rows → Rows → ℕ → ℕ
lent_edit_fault edits constraints edit =
    let R = decoded edits constraints in lent_fault empty_tables edits constraints orelse named_fault R edit orelse 8 given not (sound R)

-- an edit that the record knows: its name, and its place among those written
pub record KnownIn (R : Record) (edit name place : ℕ) : Type 0 where
  pub named : name ≡ edit
  pub known : edit among written R
  pub place-low : place < length (written R)
  pub placed : get_or (written R) place 0 ≡ edit

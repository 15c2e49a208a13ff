-- Document 01, "Sound, must, never, settled", "The bench schedule" and "What is turned away": what is answered of a lent record. Assumes nothing.
use Rattle.std.specs.Prelude.{◌≡◌, true, not, ℕ, length}
use Rattle.record.specs.Record.{Record}
use Rattle.record.specs.declared.Record as declared
use Rattle.record.specs.Stored.{stored}
use Rattle.record.specs.Judgement.{sound}
use Rattle.record_rows.specs.grounds.Ground.{Rows, ◌given◌, ◌orelse◌}
use Rattle.record_tables.specs.Table.{empty_tables, decoded, lent_fault}
use Rattle.record_tables.specs.Checked.{Checked}
use Rattle.judgement.specs.Judged.{judged_of}
use Rattle.judgement.specs.declared.lent_record.Judgement.{Judgement}

-- the number: rows first; then 8, the record is not sound
unfoldable pub record_fault : Rows → Rows → ℕ
record_fault edits constraints = lent_fault empty_tables edits constraints orelse 8 given not (sound (decoded edits constraints))

-- a lent record without fault, in memory
pub record Taking (edits constraints : Rows) (multilog : declared.Record) : Type 0 where
  pub is : multilog ≡ stored (decoded edits constraints)
  pub checked : Checked (decoded edits constraints)
  pub sound-now : sound (decoded edits constraints) ≡ true

-- how many edits are written, and for each must, never, settled and its page with nothing hidden
abbrev pub judgement_is : Record → Judgement
judgement_is R = let j = judged_of R in record { count = length R.edits; must = j.must; never = j.never; settled = j.settled; place = j.place }

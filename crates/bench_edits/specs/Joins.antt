-- Inner: what the calls that bring in rows share (document 01, "Entries and pages" and "What is turned away"): the refusal of the rows, then 8, then a
-- change. Assumes nothing.
use Rattle.std.specs.Prelude.{◌≡◌, cond, List, Result, Ok, Err}
use Rattle.refusals.specs.declared.Refusal.{Refusal}
use Rattle.record.specs.declared.Record as declared
use Rattle.record.specs.Record.{Record}
use Rattle.record.specs.Stored.{stored}
use Rattle.record.specs.Judgement.{sound}
use Rattle.record_tables.specs.Checked.{Checked}
use Rattle.voting.specs.Tally.{Election}
use Rattle.ledger.specs.declared.Bench.{Bench}
use Rattle.ledger.specs.Ledger.{Ledger, Call, Reply, start, change, refusal, fed}
use Rattle.ledger.specs.Bench.{Outcome, bench_of, outcome, told_outcome}
use Rattle.bench.specs.Changes.{KeepsEdits}

-- rows without fault, U being their union with the record
unfoldable pub joined_reply : Ledger → Record → Election → Reply
joined_reply L U E = cond (sound U) (change L U L.hidden E) (refusal L 8 0)

-- The promise of such a call: rows that are refused leave the bench; of a bench that calls left, a union that is a checked record and keeps the bench's
-- edits is joined.
unfoldable pub Joins : Bench → Result declared.Record Refusal → Election → Outcome → Type 0
Joins bench (Err refusal) E r = r ≡ told_outcome (Err refusal) bench
Joins bench (Ok union) E r = (calls : List Call) (U : Record) → bench ≡ bench_of (fed start calls)
    → union ≡ stored U → Checked U → KeepsEdits (fed start calls).multilog U → r ≡ outcome (joined_reply (fed start calls) U E)

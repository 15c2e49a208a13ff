-- Inner: what the calls' code shares (document 01, "Entries and pages"): a page opened, a turn, and the promise of a change. Assumes nothing.
use Rattle.std.specs.Prelude.{◌≡◌, true, cond, List, map, ℕ, ◌≤◌, eqb, take, drop}
use Rattle.record.specs.declared.Record as declared
use Rattle.record.specs.declared.Schedule.{Schedule}
use Rattle.lists.specs.Lists.{mem, ◌among◌, ◌within◌}
use Rattle.record.specs.Record.{Record, written}
use Rattle.record.specs.Stored.{stored, edit_named}
use Rattle.record.specs.Sound.{Sound}
use Rattle.record.specs.Judgement.{sound}
use Rattle.graph.specs.links.Marks.{marks_of}
use Rattle.record_tables.specs.Checked.{Checked}
use Rattle.voting.specs.Tally.{Election}
use Rattle.pages_turner.specs.declared.Turner.{Turner}
use Rattle.catalogue.specs.Shelves.{schedule_of}
use Rattle.catalogue.specs.Chips.{chips_view}
use Rattle.ledger.specs.declared.Bench.{Bench}
use Rattle.ledger.specs.Ledger.{Call, CallAnswer, no_election, accepted_answer, refused_answer, start, fed, change_to, change}
use Rattle.ledger.specs.Bench.{Outcome, bench_of, outcome}

-- the bench with another page open, the edits of the pages up to it run on an empty catalogue
unfoldable pub open_at : Bench → ℕ → Bench
open_at bench page = record {
  multilog = bench.multilog;
  hidden = bench.hidden;
  schedule = bench.schedule;
  turner = record { opened = page; last = bench.turner.last };
  view = chips_view (take page bench.schedule.edits);
}

-- what a turn with this number answers
abbrev pub turn_answer : ℕ → CallAnswer
turn_answer number = cond (eqb number 0) (accepted_answer 0 0 no_election) (refused_answer number 0)

-- what a turn of the bench's turner comes to on the bench: its number, and the turner after it; a refused one leaves the page
unfoldable pub turn_reply : Bench → ℕ → Turner → Outcome
turn_reply bench number after = record { answer = turn_answer number; bench = open_at bench after.opened }

-- THE PROMISE OF OPENING a page of a bench that calls left
unfoldable pub Opens : Bench → ℕ → Bench → Type 0
Opens bench page r = (calls : List Call) → bench ≡ bench_of (fed start calls) → page ≤ bench.turner.last → r ≡ open_at bench page

-- S has every edit of R, with its body
abbrev pub KeepsEdits : Record → Record → Type 0
KeepsEdits R S = (x : ℕ) → x among written R → edit_named S.edits x ≡ edit_named R.edits x

-- a row of the record as a schedule that is stored
unfoldable pub pages_of : Record → List ℕ → Schedule
pages_of R row = schedule_of (map (edit_named R.edits) (drop 1 row))

-- THE PROMISE OF A CHANGE of a bench that calls left, to a record that keeps its edits and to any hidden edits, both as they are stored: the
-- ledger's change.
unfoldable pub Changes : Bench → declared.Record → List ℕ → Election → Outcome → Type 0
Changes bench multilog hidden E r = (calls : List Call) (R : Record) (h : List ℕ) → bench ≡ bench_of (fed start calls)
    → multilog ≡ stored R → h within written R → hidden ≡ marks_of R (λ x. mem x h) → Checked R → sound R ≡ true → KeepsEdits (fed start calls).multilog R
    → r ≡ outcome (change (fed start calls) R h E)

-- The same to any row that is a sound schedule, given as it is stored: the ledger's change to that row.
unfoldable pub Reschedules : Bench → declared.Record → List ℕ → Schedule → Election → Outcome → Type 0
Reschedules bench multilog hidden new E r = (calls : List Call) (R : Record) (h row : List ℕ) → bench ≡ bench_of (fed start calls)
    → multilog ≡ stored R → hidden ≡ marks_of R (λ x. mem x h) → new ≡ pages_of R row → Checked R → Sound R row → KeepsEdits (fed start calls).multilog R
    → r ≡ outcome (change_to (fed start calls) R h row E)

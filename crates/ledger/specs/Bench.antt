-- Document 01, "Entries and pages": what the bench in memory is for a ledger, what is promised of a call, and the undo rule. Assumes nothing.
use Rattle.std.specs.Prelude.{◌≡◌, List, [], ◌∷◌, map, take, Result}
use Rattle.refusals.specs.declared.Refusal.{Refusal}
use Rattle.record.specs.declared.Edit.{Edit}
use Rattle.lists.specs.Lists.{mem}
use Rattle.record.specs.Stored.{stored, edit_named}
use Rattle.graph.specs.links.Marks.{marks_of}
use Rattle.pages.specs.Pages.{run, empty_catalogue}
use Rattle.catalogue.specs.Shelves.{schedule_of}
use Rattle.catalogue.specs.Chips.{chips, places, chips_view}
use Rattle.ledger.specs.declared.Bench.{Bench}
use Rattle.ledger.specs.declared.CallResult.{CallResult}
use Rattle.ledger.specs.Ledger.{Ledger, Call, CallAnswer, Reply, call_told, start, pages, last, step, fed}

-- the edits of the pages, with their bodies
unfoldable pub page_edits : Ledger → List Edit
page_edits L = map (edit_named L.multilog.edits) (pages L)

unfoldable pub open_edits : Ledger → List Edit
open_edits L = take L.opened (page_edits L)

-- THE BENCH IN MEMORY. Fillers stand past each count, so that equal benches are equal values. Catalogue and journal are what running the open
-- edits from an empty catalogue gives.
unfoldable pub bench_of : Ledger → Bench
bench_of L = record {
  multilog = stored L.multilog;
  hidden = marks_of L.multilog (λ x. mem x L.hidden);
  schedule = schedule_of (page_edits L);
  turner = record { opened = L.opened; last = last L };
  view = chips_view (open_edits L);
}

-- an answer and the bench after it
pub record Outcome : Type 0 where
  pub answer : CallAnswer
  pub bench : Bench

unfoldable pub outcome : Reply → Outcome
outcome r = record { answer = r.answer; bench = bench_of r.after }

-- the outcome of a call: what it answers, and the bench that it leaves
abbrev pub told_outcome : Result CallResult Refusal → Bench → Outcome
told_outcome answer bench = record { answer = call_told answer; bench = bench }

-- THE PROMISE OF A CALL: on the empty bench, or one that any calls left, it gives what the ledger fed the same calls gives.
unfoldable pub Answers : Bench → Call → Outcome → Type 0
Answers bench call r = (calls : List Call) → bench ≡ bench_of (fed start calls) → r ≡ outcome (step (fed start calls) call)

-- calls one after the other, each on the bench that the one before left
pub data Linked : Bench → List Call → List Outcome → Bench → Type 0 where
  none : {b : Bench} → Linked b [] [] b
  more : {b c : Bench} {call : Call} {r : Outcome} {calls : List Call} {rs : List Outcome}
      → Answers b call r → Linked r.bench calls rs c → Linked b (call ∷ calls) (r ∷ rs) c

unfoldable pub answers_of : List Outcome → List CallAnswer
answers_of rs = map (λ r. r.answer) rs

-- what calls come to, one after the other
unfoldable pub outcomes : Ledger → List Call → List Outcome
outcomes L [] = []
outcomes L (call ∷ rest) = outcome (step L call) ∷ outcomes (step L call).after rest

-- what the ledger answers
unfoldable pub told : Ledger → List Call → List CallAnswer
told L [] = []
told L (call ∷ calls) = (step L call).answer ∷ told (step L call).after calls

-- THE UNDO RULE: after every list of calls from an empty bench, refused ones among them, the bench is the ledger's, every answer is the ledger's,
-- and the catalogue is what an empty one becomes by running the first open edits of the schedule.
pub record Undo (calls : List Call) (rs : List Outcome) (bench : Bench) : Type 0 where
  pub ledger : bench ≡ bench_of (fed start calls)
  pub answers : answers_of rs ≡ told start calls
  pub catalogue : bench.view.catalogue.entries ≡ run chips (empty_catalogue chips places) (open_edits (fed start calls))

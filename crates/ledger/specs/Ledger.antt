-- Document 01, "Entries and pages": the ledger, fed each call with its arguments but never the bench. Assumes nothing.
use Rattle.std.specs.Prelude.{Bool, false, not, ◌&&◌, ◌||◌, cond, List, [], ◌∷◌, ℕ, ◌-◌, eqb, ℤ, length, take, drop, Result, Ok, Err}
use Rattle.std.proofs.Math.Option.{Option, none, some}
use Rattle.refusals.specs.declared.Refusal.{Refusal}
use Rattle.refusals.specs.Numbers.{number, detail}
use Rattle.lists.specs.Lists.{filter, mem}
use Rattle.record.specs.Record.{Record, written}
use Rattle.record.specs.Schedule.{schedule}
use Rattle.record.specs.Judgement.{sound, must}
use Rattle.record_rows.specs.row.Row.{Row, is_name}
use Rattle.record_rows.specs.grounds.Ground.{Rows, ◌given◌, ◌orelse◌}
use Rattle.record_tables.specs.Table.{empty_tables, decoded, lent_fault, add_edit_fault, add_constraint_fault, record_join_fault, unite}
use Rattle.voting.specs.declared.RollRow.{RollRow}
use Rattle.voting.specs.Tally.{Election, election_told, winner}
use Rattle.voting_roll.specs.Election.{Proposals, election_fault, cast, counted, refused_election}
use Rattle.pages_turner.specs.Turn.{turned, turn_fault, open_after}
use Rattle.pages.specs.Steps.{common_beginning}
use Rattle.ledger.specs.declared.CallResult.{CallResult}

-- Record, hidden edits, schedule and open page. The record is 000's multilog.
pub record Ledger : Type 0 where
  pub multilog : Record
  pub hidden : List ℕ
  pub schedule : List ℕ
  pub opened : ℕ

-- at first empty, none, INIT alone and 0
unfoldable pub start : Ledger
start = record { multilog = empty_tables; hidden = []; schedule = 0 ∷ []; opened = 0 }

-- a call with its arguments: rows and tables of numbers, names, a signed number of pages, eight lent proposals and a roll
pub data Call : Type 0 where
  add_edit : Row → Call
  add_constraint : Row → Call
  merge : Rows → Rows → Call
  hide : ℕ → Call
  show : ℕ → Call
  turn : ℤ → Call
  adopt : ℕ → Proposals → List RollRow → Call

-- the schedule's edits after INIT, one to a page
unfoldable pub pages : Ledger → List ℕ
pages L = drop 1 L.schedule

unfoldable pub last : Ledger → ℕ
last L = length (pages L)

-- the ledger open at another page
unfoldable pub at_page : Ledger → ℕ → Ledger
at_page L page = record { multilog = L.multilog; hidden = L.hidden; schedule = L.schedule; opened = page }

-- a won bundle's rows, judged last; an open election brings none
abbrev pub bundle_fault : Record → Option Record → ℕ
bundle_fault R none = 0
bundle_fault R (some B) = record_join_fault R B orelse 8 given not (sound (unite R B))

-- THE JUDGEMENT of a call: the number of its ground, 0 for none. Rows first, then the faults of the whole call, lowest first.
unfoldable pub judge : Ledger → Call → ℕ
judge L (add_edit row) = add_edit_fault L.multilog row orelse 8 given not (sound (unite L.multilog (decoded (row ∷ []) [])))
judge L (add_constraint row) = add_constraint_fault L.multilog row orelse 8 given not (sound (unite L.multilog (decoded [] (row ∷ []))))
judge L (merge edits constraints) =
    lent_fault L.multilog edits constraints
    orelse 8 given not (sound (decoded edits constraints) && sound (unite L.multilog (decoded edits constraints)))
judge L (hide x) =
    2 given not (is_name x) orelse 5 given not (mem x (written L.multilog)) orelse 9 given (must L.multilog x || mem x L.hidden)
judge L (show x) = 2 given not (is_name x) orelse 5 given not (mem x (written L.multilog)) orelse 9 given not (mem x L.hidden)
judge L (turn n) = turn_fault (turned L.opened (last L) n)
judge L (adopt e P roll) = election_fault e P roll orelse bundle_fault L.multilog (winner (cast e P roll))

-- WHAT A REFUSED CALL TELLS beside its number: nothing, for every call of these
unfoldable pub call_detail : Ledger → Call → ℕ
call_detail L (add_edit row) = 0
call_detail L (add_constraint row) = 0
call_detail L (merge edits constraints) = 0
call_detail L (hide x) = 0
call_detail L (show x) = 0
call_detail L (turn n) = 0
call_detail L (adopt e P roll) = 0

-- What a call answers, in numbers: the number of its refusal, 0 for none, and what is told beside it; the pages undone and redone; of an adoption also
-- the election's answer.
pub record CallAnswer : Type 0 where
  pub number : ℕ
  pub detail : ℕ
  pub undone : ℕ
  pub redone : ℕ
  pub won : Bool
  pub greatest : ℕ
  pub silent : ℕ
  pub total : ℕ

-- an answer and the ledger after it
pub record Reply : Type 0 where
  pub answer : CallAnswer
  pub after : Ledger

abbrev pub no_election : Election
no_election = refused_election 0

-- the answer of every accepted call
abbrev pub accepted_answer : ℕ → ℕ → Election → CallAnswer
accepted_answer undone redone E =
    record { number = 0; detail = 0; undone = undone; redone = redone; won = E.won; greatest = E.greatest; silent = E.silent; total = E.total }

-- the answer of every refused call: every part but the number and its detail is 0
abbrev pub refused_answer : ℕ → ℕ → CallAnswer
refused_answer number detail = record { number = number; detail = detail; undone = 0; redone = 0; won = false; greatest = 0; silent = 0; total = 0 }

-- the answer that a call gives
abbrev pub call_told : Result CallResult Refusal → CallAnswer
call_told (Ok r) = accepted_answer r.undone r.redone (election_told (Ok r.election))
call_told (Err refusal) = refused_answer (number refusal) (detail refusal)

-- A CHANGE TO A ROW opens the row's last page and reports pages undone and redone: old open page minus c, and new last page minus c, c pages being the
-- common beginning of the old open part and the new schedule.
unfoldable pub change_to : Ledger → Record → List ℕ → List ℕ → Election → Reply
change_to L R hidden row E =
    let page = length (drop 1 row) in
    let c = common_beginning (take L.opened (pages L)) (drop 1 row) in
    record {
      answer = accepted_answer (L.opened - c) (page - c) E;
      after = record { multilog = R; hidden = hidden; schedule = row; opened = page };
    }

-- A CHANGE makes the schedule anew.
unfoldable pub change : Ledger → Record → List ℕ → Election → Reply
change L R hidden E = change_to L R hidden (schedule R hidden) E

unfoldable pub shown : ℕ → List ℕ → List ℕ
shown x hidden = filter (λ y. not (eqb y x)) hidden

-- adoption of a won bundle is a change; with an open election nothing changes
abbrev pub adopted : Ledger → Election → Option Record → Reply
adopted L E none = record { answer = accepted_answer 0 0 E; after = L }
adopted L E (some B) = change L (unite L.multilog B) L.hidden E

-- what an accepted call does
unfoldable pub act : Ledger → Call → Reply
act L (add_edit row) = change L (unite L.multilog (decoded (row ∷ []) [])) L.hidden no_election
act L (add_constraint row) = change L (unite L.multilog (decoded [] (row ∷ []))) L.hidden no_election
act L (merge edits constraints) = change L (unite L.multilog (decoded edits constraints)) L.hidden no_election
act L (hide x) = change L L.multilog (x ∷ L.hidden) no_election
act L (show x) = change L L.multilog (shown x L.hidden) no_election
act L (turn n) = record {
  answer = accepted_answer 0 0 no_election;
  after = record {
    multilog = L.multilog;
    hidden = L.hidden;
    schedule = L.schedule;
    opened = open_after L.opened (turned L.opened (last L) n);
  };
}
act L (adopt e P roll) = adopted L (counted (cast e P roll)) (winner (cast e P roll))

-- a refused call changes nothing
unfoldable pub refusal : Ledger → ℕ → ℕ → Reply
refusal L number detail = record { answer = refused_answer number detail; after = L }

unfoldable pub step : Ledger → Call → Reply
step L call = let n = judge L call in cond (eqb n 0) (act L call) (refusal L n (call_detail L call))

-- the ledger fed calls, one after the other
unfoldable pub fed : Ledger → List Call → Ledger
fed L [] = L
fed L (call ∷ calls) = fed (step L call).after calls

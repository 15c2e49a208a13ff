-- The schedule that every list of calls leaves is the bench schedule of the record and the hidden edits. Assumes nothing.
use mathlib.Core.Path.{◌≡◌, refl, sym}
use mathlib.Core.List.{List, [], ◌∷◌}
use mathlib.Core.Option.{Option, none, some}
use Prim.Native.Nat.{ℕ}
use lib.Dec.{eqb}
use Rattle.lists.proofs.Lists.{by}
use Rattle.record.specs.Record.{Record}
use Rattle.record.specs.Schedule.{schedule}
use Rattle.voting.specs.Tally.{Election, winner}
use Rattle.voting_roll.specs.Election.{cast, counted}
use Rattle.ledger.specs.Ledger.{Ledger, Call, add_edit, add_constraint, merge, hide, show, turn, adopt, start, last, at_page, judge, change_to, change, adopted, act, refusal, step, fed}
use Rattle.ledger.specs.declared.Bench.{Bench}
use Rattle.ledger.specs.Bench.{Outcome, Answers, bench_of}
use Rattle.ledger.proofs.Valid.{empty-schedule}
use Rattle.ledger.proofs.Undone.{hidden-shown}

abbrev House : Ledger → Type 0
House L = L.schedule ≡ schedule L.multilog L.hidden

adopted-house : (L : Ledger) (E : Election) (o : Option Record) → House L → House (adopted L E o).after
unfolding change change_to
adopted-house L E none h = h
adopted-house L E (some B) h = refl

act-house : (L : Ledger) (call : Call) → House L → House (act L call).after
unfolding act change change_to
act-house L (add_edit row) h = refl
act-house L (add_constraint row) h = refl
act-house L (merge edits constraints) h = refl
act-house L (hide x) h = refl
act-house L (show x) h = refl
act-house L (turn n) h = h
act-house L (adopt e P roll) h = adopted-house L (counted (cast e P roll)) (winner (cast e P roll)) h

step-house : (L : Ledger) (call : Call) → House L → House (step L call).after
unfolding step refusal
step-house L call h = by (eqb (judge L call) 0) (λ e. rw e (act-house L call h)) (λ e. rw e h)

fed-house : (L : Ledger) (calls : List Call) → House L → House (fed L calls)
unfolding fed
fed-house L [] h = h
fed-house L (call ∷ calls) h = fed-house (step L call).after calls (step-house L call h)

pub house-schedule : (calls : List Call) → (fed start calls).schedule ≡ schedule (fed start calls).multilog (fed start calls).hidden
unfolding start
house-schedule calls = fed-house start calls (sym empty-schedule)

-- HIDING AND THEN SHOWING an edit, after every list of calls, gives the bench of before with its last page open.
pub house-hidden-shown : (calls : List Call) (x : ℕ) (b : Bench) (r s : Outcome) → b ≡ bench_of (fed start calls)
    → Answers b (hide x) r → r.answer.number ≡ 0 → Answers r.bench (show x) s → s.answer.number ≡ 0
    → s.bench ≡ bench_of (at_page (fed start calls) (last (fed start calls)))
house-hidden-shown calls = hidden-shown calls (house-schedule calls)

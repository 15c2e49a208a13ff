-- Two ledgers with one bench answer every call alike, and so the calls of every list are linked. Assumes nothing.
use mathlib.Core.Path.{◌≡◌, refl, sym, ap, ◌∙◌, fun_ext}
use mathlib.Core.Bool.{Bool, not, ◌||◌}
use mathlib.Core.List.{List, [], ◌∷◌, map}
use mathlib.Core.Option.{Option, none as nothing, some}
use Prim.Native.Nat.{ℕ}
use lib.Dec.{eqb}
use lib.ListN.{take}
use Rattle.lists.specs.Lists.{mem, index_of, ◌within◌}
use Rattle.lists.proofs.Lists.{by, same_by, mem_index, filter-mem, mem-filter}
use Rattle.record.specs.Record.{Record, name_of, names, written}
use Rattle.record.specs.Stored.{record_of}
use Rattle.record.proofs.Records.{written-names}
use Rattle.record.proofs.Scheduled.{schedule-same}
use Rattle.graph.specs.links.Marks.{name_at, marks_of}
use Rattle.graph.specs.links.Reach.{On}
use Rattle.graph.proofs.links.Names.{get_or-place}
use Rattle.graph.proofs.links.Marks.{marks-on, on-marks}
use Rattle.record_tables.specs.Table.{unite}
use Rattle.record_tables.proofs.Tables.{stored_back}
use Rattle.voting.specs.Tally.{Election, winner}
use Rattle.voting_roll.specs.Election.{cast, counted}
use Rattle.pages_turner.specs.Turn.{turned, open_after}
use Rattle.ledger.specs.declared.Bench.{Bench}
use Rattle.ledger.specs.Ledger.{Ledger, Call, add_edit, add_constraint, merge, hide, show, turn, adopt, CallAnswer, no_election, accepted_answer, refused_answer, start, pages, last, at_page, judge, call_detail, change_to, change, shown, adopted, act, refusal, step, fed}
use Rattle.ledger.specs.Bench.{page_edits, open_edits, bench_of, outcome, Linked, none, more, outcomes}
use Rattle.ledger.proofs.Valid.{Valid, start-valid, step-valid, fed-valid}
use Rattle.ledger.proofs.Undone.{from-valid}
use Rattle.ledger.proofs.Pages.{schedule-read}

-- the ledger with other hidden edits
abbrev hiding : Ledger → List ℕ → Ledger
hiding L hidden = record { multilog = L.multilog; hidden = hidden; schedule = L.schedule; opened = L.opened }

-- of hidden edits a change depends on their set alone
change-alike : (L : Ledger) (j : List ℕ) (R : Record) (h k : List ℕ) (E : Election) → ((x : ℕ) → mem x h ≡ mem x k)
    → outcome (change L R h E) ≡ outcome (change (hiding L j) R k E)
unfolding change change_to outcome bench_of page_edits open_edits pages last
change-alike L j R h k E f = rw (schedule-same R h k f, fun_ext f)

-- and so does a step
module _ (L : Ledger) (k : List ℕ) (f : (x : ℕ) → mem x L.hidden ≡ mem x k) where
  judged-alike : (call : Call) → judge L call ≡ judge (hiding L k) call
  unfolding judge last pages
  judged-alike (add_edit row) = refl
  judged-alike (add_constraint row) = refl
  judged-alike (merge edits constraints) = refl
  judged-alike (hide x) = rw (f x)
  judged-alike (show x) = rw (f x)
  judged-alike (turn n) = refl
  judged-alike (adopt e P roll) = refl

  detail-alike : (call : Call) → call_detail L call ≡ call_detail (hiding L k) call
  unfolding call_detail
  detail-alike (add_edit row) = refl
  detail-alike (add_constraint row) = refl
  detail-alike (merge edits constraints) = refl
  detail-alike (hide x) = refl
  detail-alike (show x) = refl
  detail-alike (turn n) = refl
  detail-alike (adopt e P roll) = refl

  page-alike : (answer : CallAnswer) (page : ℕ)
      → outcome (record { answer = answer; after = at_page L page }) ≡ outcome (record { answer = answer; after = at_page (hiding L k) page })
  unfolding outcome bench_of page_edits open_edits pages last at_page
  page-alike answer page = rw (fun_ext f)

  shown-alike : (x y : ℕ) → mem y (shown x L.hidden) ≡ mem y (shown x k)
  unfolding shown
  shown-alike x y =
      let p : ℕ → Bool = λ z. not (eqb z x) in
      same_by _ _
      (λ i. let r = filter-mem p L.hidden y i in mem-filter p k y (sym (f y) ∙ r.0) r.1)
      (λ i. let r = filter-mem p k y i in mem-filter p L.hidden y (f y ∙ r.0) r.1)

  adopted-alike : (E : Election) (o : Option Record) → outcome (adopted L E o) ≡ outcome (adopted (hiding L k) E o)
  unfolding at_page
  adopted-alike E nothing = page-alike (accepted_answer 0 0 E) L.opened
  adopted-alike E (some B) = change-alike L k (unite L.multilog B) L.hidden k E f

  acted-alike : (call : Call) → outcome (act L call) ≡ outcome (act (hiding L k) call)
  unfolding act mem at_page last pages
  acted-alike (add_edit row) = change-alike L k _ L.hidden k _ f
  acted-alike (add_constraint row) = change-alike L k _ L.hidden k _ f
  acted-alike (merge edits constraints) = change-alike L k _ L.hidden k _ f
  acted-alike (hide x) = change-alike L k L.multilog (x ∷ L.hidden) (x ∷ k) _ (λ y. ap (λ (b : Bool). eqb y x || b) (f y))
  acted-alike (show x) = change-alike L k L.multilog (shown x L.hidden) (shown x k) _ (shown-alike x)
  acted-alike (turn n) = page-alike (accepted_answer 0 0 no_election) (open_after L.opened (turned L.opened (last L) n))
  acted-alike (adopt e P roll) = adopted-alike (counted (cast e P roll)) (winner (cast e P roll))

  step-alike : (call : Call) → outcome (step L call) ≡ outcome (step (hiding L k) call)
  unfolding step refusal at_page
  step-alike call =
      by (eqb (judge (hiding L k) call) 0)
      (λ e. rw (judged-alike call, e) (acted-alike call))
      (λ e. rw (judged-alike call, detail-alike call, e) (page-alike (refused_answer (judge (hiding L k) call) (call_detail (hiding L k) call)) L.opened))

-- the marks of hidden edits determine their set
hidden-within : (R : Record) (h k : List ℕ) → h within written R → marks_of R (λ x. mem x h) ≡ marks_of R (λ x. mem x k) → h within k
hidden-within R h k v e x j =
    let i = written-names R x (v x j) in
    let y = index_of x (names R) in
    let p : name_at R y ≡ x = get_or-place x (names R) i in
    let o : On (marks_of R (λ z. mem z h)) y = on-marks R (λ z. mem z h) y (mem_index x (names R) i) (rw p j) in
    rw p at (marks-on R (λ z. mem z k) y (rw e at o)).1

-- TWO LEDGERS WITH ONE BENCH ANSWER EVERY CALL ALIKE, and leave one bench again: the order of the hidden edits, which the bench does not hold, is
-- in no answer.
pub one-bench : (L M : Ledger) → Valid L → Valid M → bench_of L ≡ bench_of M → (call : Call) → outcome (step L call) ≡ outcome (step M call)
unfolding bench_of
one-bench L M v w e call =
    let r : M.multilog ≡ L.multilog = sym (stored_back M.multilog) ∙ ap (λ (b : Bench). record_of b.multilog) (sym e) ∙ stored_back L.multilog in
    let marks : marks_of L.multilog (λ x. mem x L.hidden) ≡ marks_of L.multilog (λ x. mem x M.hidden) = rw r at (ap (λ (b : Bench). b.hidden) e) in
    let f : (x : ℕ) → mem x L.hidden ≡ mem x M.hidden =
    λ x. same_by _ _ (hidden-within L.multilog L.hidden M.hidden v.hidden-written marks x)
    (hidden-within L.multilog M.hidden L.hidden (rw r at w.hidden-written) (sym marks) x) in
    let s : M.schedule ≡ L.schedule =
    sym (schedule-read M w) ∙ ap (λ (b : Bench). 0 ∷ map name_of (take b.schedule.count b.schedule.edits)) (sym e) ∙ schedule-read L v in
    let o : M.opened ≡ L.opened = ap (λ (b : Bench). b.turner.opened) (sym e) in
    let m : M ≡ hiding L M.hidden = λ i. record { multilog = r i; hidden = M.hidden; schedule = s i; opened = o i } in
    step-alike L M.hidden f call ∙ sym (ap (λ (N : Ledger). outcome (step N call)) m)

pub two-ledgers : (calls others : List Call) → bench_of (fed start calls) ≡ bench_of (fed start others) → (call : Call)
    → outcome (step (fed start calls) call) ≡ outcome (step (fed start others) call)
two-ledgers calls others = one-bench (fed start calls) (fed start others) (fed-valid start calls start-valid) (fed-valid start others start-valid)

-- So what calls come to is what is promised of each, also for other calls that lead to the same bench.
linked-from : (L : Ledger) → Valid L → (calls : List Call) → Linked (bench_of L) calls (outcomes L calls) (bench_of (fed L calls))
unfolding outcomes fed outcome
linked-from L v [] = none
linked-from L v (call ∷ calls) =
    more (from-valid (bench_of L) call (outcome (step L call)) (λ M w e. one-bench L M v w e call)) (linked-from (step L call).after (step-valid L call v) calls)

pub linked-of : (calls : List Call) → Linked (bench_of start) calls (outcomes start calls) (bench_of (fed start calls))
linked-of = linked-from start start-valid

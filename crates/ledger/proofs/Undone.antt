-- The undo rule over every list of calls, and what follows from it. Assumes nothing.
use mathlib.Core.Path.{◌≡◌, refl, sym, ap, ◌∙◌}
use mathlib.Core.Bool.{Bool, true, false, not}
use mathlib.Core.Logic.{inl}
use mathlib.Core.List.{List, [], ◌∷◌, ◌++◌}
use mathlib.Core.Option.{Option, none as nothing, some}
use Prim.Native.Nat.{ℕ, ◌≤◌}
use native.Mathlib.Omega.{arith}
use lib.Dec.{eqb}
use lib.IntN.{ℤ, pos, ◌+ℤ◌, +ℤ_assoc, +ℤ_idr}
use lib.ListN.{length, drop}
use borrow.Author.Tests.{eqb-true, eq-eqb, ne_eqb, le-leb}
use Rattle.refusals.specs.declared.Refusal.{Refusal}
use Rattle.refusals.specs.Numbers.{number, detail}
use Rattle.refusals.proofs.Numbers.{no-detail}
use Rattle.record.specs.declared.Edit.{Edit}
use Rattle.lists.specs.Lists.{filter, mem, ◌among◌, Has}
use Rattle.record.specs.Record.{Record, written, notafter, enables}
use Rattle.record.specs.Schedule.{schedule}
use Rattle.record.specs.Judgement.{must}
use Rattle.lists.proofs.Lists.{by, clash, is-by, mem-head, mem-tail, or-no-r}
use Rattle.lists.proofs.Union.{united-old}
use Rattle.record_rows.proofs.grounds.Grounds.{orelse-none, given-none}
use Rattle.record_rows.specs.row.Row.{Row, is_name, edit_of}
use Rattle.record_rows.specs.grounds.Ground.{◌given◌}
use Rattle.record_tables.specs.Table.{edit_key, unite}
use Rattle.record_tables.proofs.Records.{joining-kept}
use Rattle.voting.specs.Tally.{Election, winner}
use Rattle.voting_roll.specs.Election.{cast, counted}
use Rattle.std.specs.Prelude.{Option as Page, Some, None}
use Rattle.pages_turner.specs.Turn.{landed, turned, turn_fault, open_after}
use Rattle.pages_turner.proofs.Landed.{turned-lands}
use Rattle.pages.specs.Pages.{run, empty_catalogue}
use Rattle.pages.proofs.Pages.{catalogue-of}
use Rattle.catalogue.specs.Shelves.{rows}
use Rattle.catalogue.specs.Chips.{chips, places, chips_view}
use Rattle.ledger.specs.declared.Bench.{Bench}
use Rattle.ledger.specs.Ledger.{Ledger, Call, add_edit, add_constraint, merge, hide, show, turn, adopt, Reply, start, pages, last, at_page, judge, call_detail, change_to, change, shown, adopted, act, refusal, step, fed}
use Rattle.ledger.specs.Bench.{Outcome, open_edits, bench_of, outcome, Answers, Linked, none, more, answers_of, told, Undo}
use Rattle.ledger.proofs.Valid.{Valid, start-valid, fed-valid}

-- what is shown of every valid ledger is promised of every list of calls
pub from-valid : (bench : Bench) (call : Call) (r : Outcome) → ((L : Ledger) → Valid L → bench ≡ bench_of L → r ≡ outcome (step L call)) → Answers bench call r
unfolding Answers
from-valid bench call r f = λ calls e. f (fed start calls) (fed-valid start calls start-valid) e

pub fed-more : (L : Ledger) (calls : List Call) (call : Call) → fed L (calls ++ (call ∷ [])) ≡ (step (fed L calls) call).after
unfolding fed
fed-more L [] call = refl
fed-more L (k ∷ calls) call = fed-more (step L k).after calls call

record Kept (L : Ledger) (calls : List Call) (rs : List Outcome) (c : Bench) : Type 0 where
  ledger : c ≡ bench_of (fed L calls)
  answers : answers_of rs ≡ told L calls

kept : (before : List Call) {b c : Bench} {calls : List Call} {rs : List Outcome} → Linked b calls rs c → b ≡ bench_of (fed start before)
    → Kept (fed start before) calls rs c
unfolding fed told answers_of Answers outcome
kept before none e = record { ledger = e; answers = refl }
kept before (more {call = k} {r = r} a l) e =
    let s = a before e in
    let m = fed-more start before k in
    let q = kept (before ++ (k ∷ [])) l (ap (λ (o : Outcome). o.bench) s ∙ ap bench_of (sym m)) in
    let w : r.answer ≡ (step (fed start before) k).answer = ap (λ (o : Outcome). o.answer) s in
    record { ledger = rw m at q.ledger; answers = λ i. w i ∷ (rw m at q.answers) i }

-- the catalogue of a ledger's bench is the fold of its open edits
ran : (L : Ledger) → (bench_of L).view.catalogue.entries ≡ run chips (empty_catalogue chips places) (open_edits L)
unfolding bench_of chips_view
ran L = catalogue-of chips places rows (open_edits L)

-- THE UNDO RULE
pub undo-rule : {calls : List Call} {rs : List Outcome} {c : Bench} → Linked (bench_of start) calls rs c → Undo calls rs c
unfolding fed
undo-rule {calls} l =
    let k = kept [] l refl in
    record { ledger = k.ledger; answers = k.answers; catalogue = ap (λ (b : Bench). b.view.catalogue.entries) k.ledger ∙ ran (fed start calls) }

-- a step by its judgement
pub step-refused : (L : Ledger) (call : Call) → (judge L call ≡ 0 → ⊥) → step L call ≡ refusal L (judge L call) (call_detail L call)
unfolding step
step-refused L call n = rw (ne_eqb (judge L call) 0 n)

pub step-accepted : (L : Ledger) (call : Call) → judge L call ≡ 0 → step L call ≡ act L call
unfolding step
step-accepted L call e = rw e

-- what a refusal tells beside the number that the call is judged to have
pub detail-told : (L : Ledger) (call : Call) (refused : Refusal) → number refused ≡ judge L call → detail refused ≡ call_detail L call
unfolding call_detail
detail-told L (add_edit row) refused j = no-detail refused
detail-told L (add_constraint row) refused j = no-detail refused
detail-told L (merge edits constraints) refused j = no-detail refused
detail-told L (hide x) refused j = no-detail refused
detail-told L (show x) refused j = no-detail refused
detail-told L (turn n) refused j = no-detail refused
detail-told L (adopt e P roll) refused j = no-detail refused

accepted-judged : (L : Ledger) (call : Call) → (step L call).answer.number ≡ 0 → judge L call ≡ 0
unfolding refusal
accepted-judged L call e =
    is-by (judge L call) 0 (λ q. q) (λ q. sym (ap (λ (r : Reply). r.answer.number) (step-refused L call q)) ∙ e)

adopted-number : (L : Ledger) (E : Election) (o : Option Record) → (adopted L E o).answer.number ≡ 0
unfolding change change_to
adopted-number L E nothing = refl
adopted-number L E (some B) = refl

accepted-number : (L : Ledger) (call : Call) → (act L call).answer.number ≡ 0
unfolding act change change_to
accepted-number L (add_edit row) = refl
accepted-number L (add_constraint row) = refl
accepted-number L (merge edits constraints) = refl
accepted-number L (hide x) = refl
accepted-number L (show x) = refl
accepted-number L (turn n) = refl
accepted-number L (adopt e P roll) = adopted-number L (counted (cast e P roll)) (winner (cast e P roll))

-- A REFUSED CALL leaves the bench as it was.
pub refused-unchanged : (calls : List Call) (call : Call) (b : Bench) (r : Outcome) → b ≡ bench_of (fed start calls) → Answers b call r
    → (r.answer.number ≡ 0 → ⊥) → r.bench ≡ b
unfolding Answers outcome refusal
refused-unchanged calls call b r e a n =
    let L = fed start calls in
    let x = a calls e in
    is-by (judge L call) 0
    (λ q. absurd (n (ap (λ (o : Outcome). o.answer.number) x ∙ (ap (λ (s : Reply). s.answer.number) (step-accepted L call q) ∙ accepted-number L call))))
    (λ q. ap (λ (o : Outcome). o.bench) x ∙ (ap (λ (s : Reply). bench_of s.after) (step-refused L call q) ∙ sym e))

-- A TURN AND ITS OPPOSITE
turned-back : (opened last page : ℕ) (n k : ℤ) → n +ℤ k ≡ pos 0 → opened ≤ last → turned opened last n ≡ Some page → turned page last k ≡ Some opened
unfolding turned landed
turned-back opened last page n k o l h =
    let a : pos page +ℤ k ≡ pos opened =
    ap (λ (z : ℤ). z +ℤ k) (sym (turned-lands last page opened n h).is) ∙ +ℤ_assoc (pos opened) n k ∙ ap (λ (z : ℤ). pos opened +ℤ z) o ∙ +ℤ_idr (pos opened) in
    ap (landed last) a ∙ rw (le-leb opened last l)

turn-judged : (L : Ledger) (n : ℤ) (t : Page ℕ) → turned L.opened (last L) n ≡ t → judge L (turn n) ≡ turn_fault t
unfolding judge
turn-judged L n t e = ap turn_fault e

turn-after : (L : Ledger) (n : ℤ) (page : ℕ) → turned L.opened (last L) n ≡ Some page → (step L (turn n)).after ≡ at_page L page
unfolding act at_page
turn-after L n page t =
    ap (λ (r : Reply). r.after) (step-accepted L (turn n) (turn-judged L n (Some page) t)) ∙ ap (λ (u : Page ℕ). at_page L (open_after L.opened u)) t

-- an accepted turn lands on a page
turn_by {ℓ} : {P : Type ℓ} (L : Ledger) (n : ℤ) → judge L (turn n) ≡ 0 → ((page : ℕ) → turned L.opened (last L) n ≡ Some page → P) → P
turn_by {P = P} L n h f = go (turned L.opened (last L) n) refl
  where
    go : (t : Page ℕ) → turned L.opened (last L) n ≡ t → P
    go (Some page) e = f page e
    go None e = absurd (omega (arith, turn-judged L n None e))

pub opposite-turns : (calls : List Call) (n k : ℤ) (b : Bench) (r s : Outcome) → b ≡ bench_of (fed start calls) → n +ℤ k ≡ pos 0
    → Answers b (turn n) r → r.answer.number ≡ 0 → Answers r.bench (turn k) s → (s.answer.number ≡ 0) × (s.bench ≡ b)
unfolding Answers outcome at_page last pages
opposite-turns calls n k b r s e o a z c =
    let L = fed start calls in
    let x = a calls e in
    let first = accepted-judged L (turn n) (sym (ap (λ (u : Outcome). u.answer.number) x) ∙ z) in
    turn_by L n first (λ page t.
    let v = fed-valid start calls start-valid in
    let m : fed start (calls ++ (turn n ∷ [])) ≡ at_page L page = fed-more start calls (turn n) ∙ turn-after L n page t in
    let w : r.bench ≡ bench_of (fed start (calls ++ (turn n ∷ []))) = ap (λ (u : Outcome). u.bench) x ∙ ap bench_of (sym (fed-more start calls (turn n))) in
    let y : s ≡ outcome (step (at_page L page) (turn k)) = rw m at (c (calls ++ (turn n ∷ [])) w) in
    let t₂ = turned-back L.opened (last L) page n k o v.opened-within t in
    let second = turn-judged (at_page L page) k (Some L.opened) t₂ in (
      ap (λ (u : Outcome). u.answer.number) y ∙ (ap (λ (u : Reply). u.answer.number) (step-accepted (at_page L page) (turn k) second) ∙ accepted-number (at_page L page) (turn k)),
      ap (λ (u : Outcome). u.bench) y ∙ (ap bench_of (turn-after (at_page L page) k L.opened t₂) ∙ sym e),
    ))

-- HIDING AND THEN SHOWING gives the bench of before with its last page open, where that shows the bench schedule of its record and hidden edits, as
-- every bench that these calls leave does (`house-schedule`).
filter-all : (p : ℕ → Bool) (l : List ℕ) → ((y : ℕ) → y among l → p y ≡ true) → filter p l ≡ l
unfolding filter
filter-all p [] f = refl
filter-all p (y ∷ l) f = rw (f y (mem-head y l)) (ap (λ (t : List ℕ). y ∷ t) (filter-all p l (λ z i. f z (mem-tail z y l i))))

shown-hidden : (x : ℕ) (hidden : List ℕ) → mem x hidden ≡ false → shown x (x ∷ hidden) ≡ hidden
unfolding shown filter
shown-hidden x hidden n =
    rw (eq-eqb x x refl) (filter-all (λ y. not (eqb y x)) hidden (λ y i. by (eqb y x) (λ e. clash (rw (eqb-true y x e) at i) n) (λ e. rw e)))

fresh : (L : Ledger) (x : ℕ) → judge L (hide x) ≡ 0 → mem x L.hidden ≡ false
unfolding judge
fresh L x h =
    let k = (orelse-none (5 given not (mem x (written L.multilog))) _ (orelse-none (2 given not (is_name x)) _ h).1).1 in
    or-no-r (must L.multilog x) _ (given-none 8 _ k)

again : (L : Ledger) (x : ℕ) → L.schedule ≡ schedule L.multilog L.hidden → mem x L.hidden ≡ false
    → (act (act L (hide x)).after (show x)).after ≡ at_page L (last L)
unfolding act change change_to at_page last pages
again L x made n =
    let e = shown-hidden x L.hidden n in
    let m : schedule L.multilog (shown x (x ∷ L.hidden)) ≡ L.schedule = ap (schedule L.multilog) e ∙ sym made in
    λ i. record { multilog = L.multilog; hidden = e i; schedule = m i; opened = length (drop 1 (m i)) }

pub hidden-shown : (calls : List Call) → (fed start calls).schedule ≡ schedule (fed start calls).multilog (fed start calls).hidden
    → (x : ℕ) (b : Bench) (r s : Outcome) → b ≡ bench_of (fed start calls)
    → Answers b (hide x) r → r.answer.number ≡ 0 → Answers r.bench (show x) s → s.answer.number ≡ 0
    → s.bench ≡ bench_of (at_page (fed start calls) (last (fed start calls)))
unfolding Answers outcome at_page last pages act change change_to
hidden-shown calls made x b r s e a z c w =
    let L = fed start calls in
    let y = a calls e in
    let hid = accepted-judged L (hide x) (sym (ap (λ (u : Outcome). u.answer.number) y) ∙ z) in
    let L₁ = (act L (hide x)).after in
    let m : fed start (calls ++ (hide x ∷ [])) ≡ L₁ = fed-more start calls (hide x) ∙ ap (λ (u : Reply). u.after) (step-accepted L (hide x) hid) in
    let q : r.bench ≡ bench_of (fed start (calls ++ (hide x ∷ []))) = ap (λ (u : Outcome). u.bench) y ∙ ap bench_of (sym (fed-more start calls (hide x))) in
    let y₂ : s ≡ outcome (step L₁ (show x)) = rw m at (c (calls ++ (hide x ∷ [])) q) in
    let sho = accepted-judged L₁ (show x) (sym (ap (λ (u : Outcome). u.answer.number) y₂) ∙ w) in
    let n : mem x L.hidden ≡ false = fresh L x hid in
    ap (λ (u : Outcome). u.bench) y₂ ∙ (ap (λ (u : Reply). bench_of u.after) (step-accepted L₁ (show x) sho) ∙ ap bench_of (again L x made n))

-- THE DESK'S RULES. An edit never stands without the edits that enable it: of every schedule that calls lead to, whose pages are all in the view
-- whenever the last one is open.
pub never-alone : (calls : List Call) (a b : ℕ) → enables (fed start calls).multilog a b ≡ true → b among (fed start calls).schedule → a among (fed start calls).schedule
never-alone calls a b e i = (fed-valid start calls start-valid).sound-schedule.complete a b e i

-- Two edits that are each notafter the other never both stand.
pub never_both : (calls : List Call) (a b : ℕ) → notafter (fed start calls).multilog a b ≡ true → notafter (fed start calls).multilog b a ≡ true
    → a among (fed start calls).schedule → b among (fed start calls).schedule → ⊥
never_both calls a b e f i j =
    let s = (fed-valid start calls start-valid).sound-schedule in
    let p = s.orders a b e i j in
    let q = s.orders b a f j i in
    omega arith

-- Every edit of the record stays in it, with its body.
act-stays : (L : Ledger) (call : Call) (e : Edit) → Has e L.multilog.edits → Has e (act L call).after.multilog.edits
unfolding act change change_to unite
act-stays L (add_edit row) e h = united-old edit_key e L.multilog.edits _ h
act-stays L (add_constraint row) e h = united-old edit_key e L.multilog.edits _ h
act-stays L (merge edits constraints) e h = united-old edit_key e L.multilog.edits _ h
act-stays L (hide x) e h = h
act-stays L (show x) e h = h
act-stays L (turn n) e h = h
act-stays L (adopt x P roll) e h = stays (winner (cast x P roll))
  where
    stays : (o : Option Record) → Has e (adopted L (counted (cast x P roll)) o).after.multilog.edits
    stays nothing = h
    stays (some B) = united-old edit_key e L.multilog.edits B.edits h

step_stays : (L : Ledger) (call : Call) (e : Edit) → Has e L.multilog.edits → Has e (step L call).after.multilog.edits
unfolding step refusal
step_stays L call e h = by (eqb (judge L call) 0) (λ q. rw q (act-stays L call e h)) (λ q. rw q h)

pub edits-stay : (L : Ledger) (calls : List Call) (e : Edit) → Has e L.multilog.edits → Has e (fed L calls).multilog.edits
unfolding fed
edits-stay L [] e h = h
edits-stay L (call ∷ calls) e h = edits-stay (step L call).after calls e (step_stays L call e h)

added-in : (L : Ledger) (row : Row) → Valid L → judge L (add_edit row) ≡ 0 → Has (edit_of row) (act L (add_edit row)).after.multilog.edits
unfolding act change change_to unite judge
added-in L row v j = joining-kept L.multilog (written L.multilog) true (row ∷ []) [] v.checked (orelse-none _ _ j).0 (edit_of row) (inl refl)

-- and an edit that is added and accepted is of the record from then on
pub added-stays : (before after : List Call) (row : Row) → judge (fed start before) (add_edit row) ≡ 0
    → Has (edit_of row) (fed (step (fed start before) (add_edit row)).after after).multilog.edits
added-stays before after row h =
    let L = fed start before in
    edits-stay _ after (edit_of row) (rw (step-accepted L (add_edit row) h) (added-in L row (fed-valid start before start-valid) h))

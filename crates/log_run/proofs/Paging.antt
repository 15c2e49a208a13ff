-- Lines that turn pages or ask for the open page: the turner tells what they come to, and the bench is opened after the last. Assumes nothing.
use mathlib.Core.Path.{◌≡◌, refl, sym, ap, ◌∙◌}
use mathlib.Core.Bool.{false}
use mathlib.Core.List.{List}
use Prim.Native.Nat.{ℕ, suc, ◌+◌, ◌-◌, ◌≤◌, ◌<◌}
use native.Mathlib.Omega.{arith}
use lib.Dec.{eqb}
use lib.IntN.{ℤ}
use borrow.Author.Tests.{ne_eqb}
use lib.ListN.{length, take, drop}
use Rattle.std.specs.Prelude.{Option, Some, None, is_some, IsSome, Result, Ok, Err, IsOkAnd, MatchResult}
use Rattle.refusals.specs.declared.Refusal.{Refusal}
use Rattle.refusals.specs.Numbers.{number, number_of}
use Rattle.refusals.proofs.Numbers.{no-detail, number-positive}
use Rattle.lists.proofs.Lists.{is-by, clash}
use Rattle.pages_turner.specs.declared.Turner.{Turner}
use Rattle.pages_turner.specs.turning.Turning.{turner_fault, after_turn}
use Rattle.ledger.specs.declared.Bench.{Bench}
use Rattle.ledger.specs.declared.CallResult.{CallResult}
use Rattle.ledger.specs.Ledger.{turn, call_told, refused_answer}
use Rattle.ledger.specs.Bench.{Answers, bench_of}
use Rattle.bench.specs.Changes.{open_at, turn_answer, turn_reply, Opens}
use Rattle.bench.proofs.Moves.{open-same, turn-answers}
use Rattle.log_forms.specs.declared.Printer.{Printer}
use Rattle.log_forms.specs.Printed.{Printed}
use Rattle.log_forms.proofs.Printing.{printed-as}
use Rattle.text_lines.specs.Lines.{first_line}
use Rattle.text_lines.proofs.Ends.{first_taken}
use Rattle.log_answers.specs.bench_answers.Asks.{page_text}
use Rattle.log_commands.specs.declared.Call.{Call as Calls}
use Rattle.log_commands.specs.declared.Call.TheVariants.{Turn as TurnPages}
use Rattle.log_commands.specs.declared.Ask.TheVariants.{Page}
use Rattle.log_commands.specs.declared.Command.{Command}
use Rattle.log_commands.specs.declared.Command.TheVariants.{Call, Ask}
use Rattle.log_commands.specs.Grammar.{command_read}
use Rattle.log_session.specs.declared.Session.{Session}
use Rattle.log_session.specs.Desk.{Desk, make, ledger_of, bench_in, replied}
use Rattle.log_session.specs.Requests.{request_of}
use Rattle.log_session.specs.calls.Lines.{Holds, outcome_text}
use Rattle.log_session.specs.questions.Questions.{ask_text}
use Rattle.log_session.proofs.Cases.{ledger-valid}
use Rattle.log_run.specs.declared.PageLine.{PageLine}
use Rattle.log_run.specs.declared.PageLine.TheVariants.{Turn, Question}
use Rattle.log_run.specs.Branches.{paging_of}
use Rattle.log_run.specs.Effects.{effect}
use Rattle.log_run.specs.Running.{opened, Running}
use Rattle.log_run.proofs.Performed.{Performed, call-performed, ask-performed}
use Rattle.log_run.proofs.Running.{running-next}

-- the open page opened
pub open-again : (D : Desk) {bench : Bench} → bench ≡ bench_in D → {turner : Turner} → bench.turner ≡ turner → bench ≡ open_at bench turner.opened
unfolding bench_in
open-again D {bench} e t = sym (ap (λ (u : Turner). open_at bench u.opened) (sym t) ∙ open-same (ledger_of D) (ledger-valid D) bench e)

-- the line that a turn or a question is
abbrev line_of : PageLine → Result Command Refusal
line_of (Turn pages) = Ok (Call (TurnPages pages))
line_of Question = Ok (Ask Page)

abbrev told_in : Option PageLine → PageLine
told_in None = Question
told_in (Some paging) = paging

no-line : {P : Type 0} {paging : PageLine} → ◌≡◌ {A = Option PageLine} None (Some paging) → P
no-line e = clash refl (sym (ap is_some e))

pub paging-line : (command : Result Command Refusal) {paging : PageLine} → paging_of command ≡ Some paging → command ≡ line_of paging
paging-line (Ok (Call (TurnPages pages))) e = ap line_of (ap told_in e)
paging-line (Ok (Ask Page)) e = ap line_of (ap told_in e)
paging-line command e = no-line e

-- a turn of the bench's turner is the ledger's
turn-replied : (D : Desk) (bench : Bench) → bench ≡ bench_in D → {turner : Turner} → bench.turner ≡ turner → (pages : ℤ)
    → turn_reply bench (turner_fault turner pages) (after_turn turner pages) ≡ replied D (make (turn pages))
unfolding replied Answers ledger_of bench_in
turn-replied D bench b t pages = ap (λ (v : Turner). turn_reply bench (turner_fault v pages) (after_turn v pages)) (sym t) ∙ turn-answers bench pages D.calls b

-- what a turn of the turner alone answers
pub turned-told : (turned : Result (Unit {0}) Refusal) (answer : Result CallResult Refusal) (P : Unit {0} → CallResult → Type 0) → ((u : Unit {0}) (r : CallResult) → P u r → call_told (Ok r) ≡ turn_answer 0)
    → MatchResult turned (λ x. IsOkAnd answer (P x)) (λ e. answer ≡ Err e) → call_told answer ≡ turn_answer (number_of turned)
turned-told (Ok u) (Ok r) P f h = f u r h
turned-told (Ok u) (Err refusal) P f h = absurd h
turned-told (Err refusal) answer P f h =
    let e : eqb (number refusal) 0 ≡ false = ne_eqb (number refusal) 0 (number-positive refusal) in
    rw e (ap call_told h ∙ ap (refused_answer (number refusal)) (no-detail refusal))

module _ (D : Desk) (command : Result Command Refusal) {session : Session} (H : Holds D session) {turner : Turner} (t : session.bench.turner ≡ turner) {before after : Printer} where
  pub page-performed : paging_of command ≡ Some Question → Printed (page_text turner.opened turner.last) before after
      → Performed (opened session turner.opened) before after (effect D command)
  unfolding ask_text
  page-performed p q =
      let x : page_text turner.opened turner.last ≡ ask_text Page D =
      ap (λ (u : Turner). page_text u.opened u.last) (sym t ∙ ap (λ (b : Bench). b.turner) H.benched) in
      rw (sym (open-again D H.benched t)) (ask-performed D Page (paging-line command p) H (printed-as x q))

  pub turn-performed : (pages : ℤ) → paging_of command ≡ Some (Turn pages) → {by : ℤ} → by ≡ pages → {call : Calls} → call ≡ TurnPages pages
      → Printed (outcome_text call (turn_answer (turner_fault turner by)) (after_turn turner by) before.line) before after
      → Performed (opened session (after_turn turner by).opened) before after (effect D command)
  unfolding turn_reply open_at request_of
  turn-performed pages p {by} b {call} k w =
      let o = after_turn turner pages in
      let l : o ≡ record { opened = o.opened; last = session.bench.turner.last } = λ i. record { opened = o.opened; last = ap (λ (v : Turner). v.last) (sym t) i } in
      rw b (call-performed D (TurnPages pages) (paging-line command p) (turn_reply session.bench (turner_fault turner pages) o) (turn-replied D session.bench H.benched t pages) (rw (b, k, l) at w) H.kept)

-- the line that starts at a place, as it is read
read_first : (log : List ℕ) (from : ℕ) {end : ℕ} → end ≡ from + length (first_line (drop from log)) → {command : Result Command Refusal} → command ≡ command_read (take (end - from) (drop from log))
    → command ≡ command_read (first_line (drop from log))
read_first log from {end} e q = let n : end - from ≡ length (first_line (drop from log)) = omega arith in rw (n, first_taken (drop from log)) at q

pub first-turn : (log : List ℕ) (from : ℕ) {end : ℕ} → end ≡ from + length (first_line (drop from log)) → {command : Result Command Refusal} → command ≡ command_read (take (end - from) (drop from log))
    → {paging : PageLine} → paging_of command ≡ Some paging → IsSome (paging_of (command_read (first_line (drop from log))))
first-turn log from e o {paging} t = let q : paging_of (command_read (first_line (drop from log))) ≡ Some paging = ap paging_of (sym (read_first log from e o)) ∙ t in rw q refl

-- where lines stop that start with a turn
pub stopped-after : (log : List ℕ) {start from : ℕ} → start ≤ from → IsSome (paging_of (command_read (first_line (drop start log))))
    → {end : ℕ} → end ≡ from + length (first_line (drop from log)) → {command : Result Command Refusal} → command ≡ command_read (take (end - from) (drop from log))
    → paging_of command ≡ None → start < from
stopped-after log {start} {from} h p e o n =
    is-by from start
    (λ s. clash (let q : paging_of (command_read (first_line (drop start log))) ≡ None =
    ap (λ (m : ℕ). paging_of (command_read (first_line (drop m log)))) (sym s) ∙ (ap paging_of (sym (read_first log from e o)) ∙ n) in rw q at p) refl)
    (λ m. omega arith)

-- a run of lines whose bench is opened at another page
module _ (log : List ℕ) (D : Desk) (before : Printer) {from : ℕ} {session : Session} {now : Printer} {limit : ℕ} (R : Running log D before from session now limit) where
  pub running-as : {b : Bench} → session.bench ≡ b → Running log D before from (record { bench = b; lending = session.lending }) now limit
  running-as e = rw e at R

  pub running-open : {turner : Turner} → session.bench.turner ≡ turner → Running log D before from (opened session turner.opened) now limit
  running-open t = running-as (open-again R.run.desk R.held.benched t)

-- the bench opened where the lines have come to
pub opened-there : (log : List ℕ) (D : Desk) (before : Printer) {from to : ℕ} {session : Session} {b : Bench} {now after : Printer} {limit : ℕ} (page : ℕ)
    → Running log D before from session now limit → Running log D before to (opened session page) after limit → Opens session.bench page b
    → Running log D before to (record { bench = b; lending = session.lending }) after limit
unfolding Opens open_at bench_in ledger_of bench_of
opened-there log D before {session = session} page R S o =
    running-as log D before S (sym (o R.run.desk.calls R.held.benched (within S.run.desk S.held.benched)))
  where
    within : (E : Desk) → open_at session.bench page ≡ bench_in E → page ≤ session.bench.turner.last
    within E e = omega (arith, ap (λ (b : Bench). b.turner.opened) e, ap (λ (b : Bench). b.turner.last) e, (ledger-valid E).opened-within)

-- one such line more
module _ (log : List ℕ) (D : Desk) (before : Printer) {from : ℕ} (session : Session) {now : Printer} {limit : ℕ} (held : Turner)
    (R : Running log D before from (opened session held.opened) now limit) (l : session.bench.turner.last ≡ held.last) where
  pub paged-next : (h : from < length log) → now.at ≤ limit → {end : ℕ} → end ≡ from + length (first_line (drop from log)) → {n : ℕ} → n ≡ suc now.line → {command : Result Command Refusal} → command ≡ command_read (take (end - from) (drop from log))
      → {after : Printer} (page : ℕ)
      → ((E : Desk) (s : Session) → Holds E s → s.bench.turner ≡ held → Performed (opened s page) (record now { line = n }) after (effect E command))
      → Running log D before end (opened session page) after limit
  unfolding open_at
  paged-next h below e q o page f =
      running-next log D before R h below e q o (λ E G. f E (opened session held.opened) G (λ i. record { opened = held.opened; last = l i }))

-- What a line that lends or makes a call prints and leaves. Assumes nothing.
use mathlib.Core.Path.{◌≡◌, refl, sym, ap, ◌∙◌}
use mathlib.Core.List.{List, []}
use Prim.Native.Nat.{ℕ}
use Rattle.ledger.specs.Ledger.{Call, start, fed, last}
use Rattle.ledger.specs.Bench.{Outcome, bench_of, outcome}
use Rattle.ledger.proofs.Undone.{fed-more}
use Rattle.log_forms.specs.declared.Printer.{Printer}
use Rattle.log_forms.specs.Printed.{Printed}
use Rattle.log_answers.specs.Answers.{answered_text}
use Rattle.log_commands.specs.declared.Lend.{Lend as Lends}
use Rattle.log_commands.specs.declared.Lend.TheVariants.{NoRow}
use Rattle.log_commands.specs.declared.Call.{Call as Calls}
use Rattle.log_commands.specs.declared.Call.TheVariants.{Adopt}
use Rattle.log_lent.specs.declared.Lending.{Lending}
use Rattle.log_lent.specs.Kept.{Kept}
use Rattle.log_session.specs.declared.Session.{Session}
use Rattle.log_session.specs.Desk.{Desk, Effect, Request, outside, make, ledger_of, bench_in, lends, requested, replied, printed_of}
use Rattle.log_session.specs.Lends.{lend_effect}
use Rattle.log_session.specs.Requests.{request_of}
use Rattle.log_session.specs.calls.Lines.{Holds, pages_text, call_text, call_effect, outcome_text}

-- a call that is no adoption
pub pages-only : (call : Calls) → ((edit : ℕ) → call ≡ Adopt edit → ⊥) → call_text call ≡ pages_text
unfolding call_text
pages-only (Adopt edit) h = absurd (h edit refl)
pages-only call h = refl

-- a line that lends makes no call, and prints nothing where it is accepted: one case is named, so that each is computed
lend-is : (D : Desk) (lend : Lends) → lend_effect D lend ≡ lends D (lend_effect D lend).number (lend_effect D lend).after.lent
unfolding lend_effect
lend-is D NoRow = refl
lend-is D lend = refl

pub lend-calls : (D : Desk) (lend : Lends) → (lend_effect D lend).after.calls ≡ D.calls
lend-calls D lend = ap (λ (E : Effect). E.after.calls) (lend-is D lend)

pub lend-text : (D : Desk) (lend : Lends) → (lend_effect D lend).text ≡ []
lend-text D lend = ap (λ (E : Effect). E.text) (lend-is D lend)

-- what is left by calls that are the same
pub same-calls : (D E : Desk) → E.calls ≡ D.calls → bench_in D ≡ bench_in E
unfolding bench_in ledger_of
same-calls D E q = ap (λ (calls : List Call). bench_of (fed start calls)) (sym q)

-- what a line that lends leaves, of the line that it is
pub lend-held : (D : Desk) {lend line : Lends} → lend ≡ line → {number : ℕ} {session : Session} → session.bench ≡ bench_in D
    → (number ≡ (lend_effect D line).number) × Kept (lend_effect D line).after.lent session.lending
    → (number ≡ (lend_effect D lend).number) × Holds (lend_effect D lend).after session
lend-held D {line = line} e b p = rw e (p.0, record { benched = b ∙ same-calls D (lend_effect D line).after (lend-calls D line); kept = p.1 })

pub lend-printed : (D : Desk) (lend : Lends) (line : ℕ) {number : ℕ} {before after : Printer} → number ≡ (lend_effect D lend).number
    → Printed (answered_text number [] line) before after → Printed (printed_of (lend_effect D lend) line) before after
unfolding printed_of
lend-printed D lend line q p = rw (lend-text D lend) (rw q at p)

-- a call
module _ (D : Desk) (call : Calls) (line : ℕ) (r : Outcome) where
  by-request : (q : Request) → r ≡ replied D q
      → (r.bench ≡ bench_in (requested D (λ a L. call_text call a L.opened (last L)) q).after)
      × (outcome_text call r.answer r.bench.turner line ≡ printed_of (requested D (λ a L. call_text call a L.opened (last L)) q) line)
  unfolding replied requested bench_in ledger_of outcome_text printed_of outcome bench_of
  by-request outside e = (ap (λ (x : Outcome). x.bench) e, ap (λ (x : Outcome). outcome_text call x.answer x.bench.turner line) e)
  by-request (make made) e = (ap (λ (x : Outcome). x.bench) e ∙ ap bench_of (sym (fed-more start D.calls made)), ap (λ (x : Outcome). outcome_text call x.answer x.bench.turner line) e)

  same-lent : (q : Request) {lending : Lending} → Kept D.lent lending → Kept (requested D (λ a L. call_text call a L.opened (last L)) q).after.lent lending
  unfolding requested
  same-lent outside k = k
  same-lent (make made) k = k

  module _ (e : r ≡ replied D (request_of D call)) where
    pub call-held : {lending : Lending} → Kept D.lent lending → Holds (call_effect D call).after (record { bench = r.bench; lending = lending })
    unfolding call_effect
    call-held k = record { benched = (by-request (request_of D call) e).0; kept = same-lent (request_of D call) k }

    pub call-printed : {before after : Printer} → Printed (outcome_text call r.answer r.bench.turner line) before after → Printed (printed_of (call_effect D call) line) before after
    unfolding call_effect
    call-printed p = rw (by-request (request_of D call) e).1 at p

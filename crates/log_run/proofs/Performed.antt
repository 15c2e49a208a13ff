-- What a line comes to, in memory and in print, by its command. Assumes nothing.
use mathlib.Core.Path.{◌≡◌, refl}
use mathlib.Core.Bool.{false}
use borrow.Author.Tests.{ne_eqb}
use mathlib.Core.List.{[], ◌∷◌}
use lib.Dec.{eqb}
use Rattle.std.specs.Prelude.{Result, Ok, Err}
use Rattle.refusals.specs.declared.Refusal.{Refusal}
use Rattle.refusals.specs.Numbers.{number}
use Rattle.refusals.proofs.Numbers.{number-positive}
use Rattle.text_report.specs.Report.{refusal_line}
use Rattle.ledger.specs.Bench.{Outcome}
use Rattle.log_forms.specs.declared.Printer.{Printer}
use Rattle.log_forms.specs.Printed.{Printed}
use Rattle.log_commands.specs.declared.Call.{Call as Calls}
use Rattle.log_commands.specs.declared.Vote.{Vote as Votes}
use Rattle.log_commands.specs.declared.Vote.TheVariants.{Elect}
use Rattle.log_commands.specs.declared.Ask.{Ask as Asks}
use Rattle.log_commands.specs.declared.Command.{Command}
use Rattle.log_commands.specs.declared.Command.TheVariants.{Call, Vote, Ask}
use Rattle.log_lent.specs.declared.Lending.{Lending}
use Rattle.log_lent.specs.Kept.{Kept}
use Rattle.log_session.specs.declared.Session.{Session}
use Rattle.log_session.specs.Desk.{Desk, Effect, replied, printed_of}
use Rattle.log_session.specs.Requests.{request_of}
use Rattle.log_session.specs.calls.Lines.{Holds, outcome_text}
use Rattle.log_session.specs.votes.Votes.{vote_effect}
use Rattle.log_session.specs.questions.Questions.{ask_text, ask_effect}
use Rattle.log_session.proofs.calls.Telling.{call-held, call-printed}
use Rattle.log_run.specs.Effects.{effect}

-- an effect, in memory and printed
abbrev pub Performed : Session → Printer → Printer → Effect → Type 0
Performed session before after E = Holds E.after session × Printed (printed_of E before.line) before after

-- a line about votes leaves the desk
pub same-desk : (D : Desk) (vote : Votes) → (vote_effect D vote).after ≡ D
unfolding vote_effect
same-desk D (Elect edit) = refl
same-desk D vote = refl

module _ (D : Desk) {session : Session} {before after : Printer} {command : Result Command Refusal} where
  -- of the command that it is
  pub performed-as : {other : Result Command Refusal} → command ≡ other → Performed session before after (effect D other) → Performed session before after (effect D command)
  performed-as e p = rw e p

  pub refusal-performed : {refusal : Refusal} → command ≡ Err refusal → Holds D session → Printed (refusal_line (number refusal) before.line ∷ []) before after
      → Performed session before after (effect D command)
  unfolding effect printed_of
  refusal-performed {refusal} e h p = performed-as e (h, let z : eqb (number refusal) 0 ≡ false = ne_eqb (number refusal) 0 (number-positive refusal) in rw z p)

  pub vote-performed : (vote : Votes) → command ≡ Ok (Vote vote) → Holds D session → Printed (printed_of (vote_effect D vote) before.line) before after
      → Performed session before after (effect D command)
  unfolding effect
  vote-performed vote e h p = performed-as e (rw (same-desk D vote) h, p)

  pub ask-performed : (ask : Asks) → command ≡ Ok (Ask ask) → Holds D session → Printed (ask_text ask D) before after → Performed session before after (effect D command)
  unfolding effect ask_effect printed_of
  ask-performed ask e h p = performed-as e (h, p)

-- a call: its answer is printed with the open and last page of the bench after it
pub call-performed : (D : Desk) {command : Result Command Refusal} (call : Calls) → command ≡ Ok (Call call)
    → {lending : Lending} {before after : Printer} (r : Outcome)
    → r ≡ replied D (request_of D call) → Printed (outcome_text call r.answer r.bench.turner before.line) before after → Kept D.lent lending
    → Performed (record { bench = r.bench; lending = lending }) before after (effect D command)
unfolding effect
call-performed D call e {before = before} r q p k = performed-as D e (call-held D call before.line r q k, call-printed D call before.line r q p)

-- A desk: one bench, and what the lines of a call log have lent. Assumes nothing.
use Rattle.std.specs.Prelude.{List, [], ◌∷◌, ◌++◌, ℕ, Result, Ok, Err}
use Rattle.refusals.specs.declared.Refusal.{Refusal}
use Rattle.refusals.specs.declared.Refusal.TheVariants.{OutOfRange}
use Rattle.log_forms.specs.Printed.{Texts}
use Rattle.log_answers.specs.Answers.{answered_text}
use Rattle.ledger.specs.declared.Bench.{Bench}
use Rattle.ledger.specs.Ledger.{CallAnswer, Ledger, Call, start, fed, step}
use Rattle.ledger.specs.Bench.{Outcome, bench_of, outcome, told_outcome}
use Rattle.log_lent.specs.Lent.{Lent, nothing_lent}

pub record Desk : Type 0 where
  -- the calls made on the bench so far, refused ones among them
  pub calls : List Call
  pub lent : Lent

unfoldable pub empty_desk : Desk
empty_desk = record { calls = []; lent = nothing_lent }

-- the ledger fed these calls, and the bench in memory
unfoldable pub ledger_of : Desk → Ledger
ledger_of D = fed start D.calls

unfoldable pub bench_in : Desk → Bench
bench_in D = bench_of (ledger_of D)

-- What a line comes to: the number of its refusal, 0 for none; the desk after it; and what is printed where it is accepted.
pub record Effect : Type 0 where
  pub number : ℕ
  pub after : Desk
  pub text : Texts

-- something else is lent, and nothing is printed
abbrev pub lends : Desk → ℕ → Lent → Effect
lends D n L = record { number = n; after = record { calls = D.calls; lent = L }; text = [] }

-- nothing changes
abbrev pub tells : Desk → ℕ → Texts → Effect
tells D n text = record { number = n; after = D; text = text }

-- a call that is made on the bench; or a number of its line is outside its range, and none is made
pub data Request : Type 0 where
  outside : Request
  make : Call → Request

unfoldable pub requested : Desk → (CallAnswer → Ledger → Texts) → Request → Effect
requested D text outside = tells D 2 []
requested D text (make call) =
    let reply = step (ledger_of D) call in
    record {
      number = reply.answer.number;
      after = record { calls = D.calls ++ (call ∷ []); lent = D.lent };
      text = text reply.answer reply.after;
    }

-- what the code of a call gives for it
unfoldable pub replied : Desk → Request → Outcome
replied D outside = told_outcome (Err OutOfRange) (bench_in D)
replied D (make call) = outcome (step (ledger_of D) call)

-- what is printed of a line: its answer, or its refusal with the line's number
unfoldable pub printed_of : Effect → ℕ → Texts
printed_of e line = answered_text e.number e.text line

-- what is printed of a line that is accepted; its refusal follows
abbrev pub accepted_text : {A : Type 0} → Result A Refusal → Texts → Texts
accepted_text (Ok x) text = text
accepted_text (Err refusal) text = []

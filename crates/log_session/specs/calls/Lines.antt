-- A desk in memory, and what a line that lends or makes a call prints. Assumes nothing.
use Rattle.std.specs.Prelude.{◌≡◌, [], ◌∷◌, ℕ}
use Rattle.pages_turner.specs.declared.Turner.{Turner}
use Rattle.ledger.specs.Ledger.{CallAnswer, last}
use Rattle.log_forms.specs.Printed.{Texts}
use Rattle.log_answers.specs.Answers.{answer_line, bit, answered_text}
use Rattle.log_commands.specs.declared.Call.{Call}
use Rattle.log_commands.specs.declared.Call.TheVariants.{Adopt}
use Rattle.log_lent.specs.Kept.{Kept}
use Rattle.log_session.specs.declared.Session.{Session}
use Rattle.log_session.specs.Desk.{Desk, Effect, bench_in, requested}
use Rattle.log_session.specs.Requests.{request_of}

-- what is in memory for a desk
pub record Holds (D : Desk) (session : Session) : Type 0 where
  pub benched : session.bench ≡ bench_in D
  pub kept : Kept D.lent session.lending

-- what an accepted call prints, and an accepted adoption: pages undone and redone, the open and the last page
unfoldable pub pages_text : CallAnswer → ℕ → ℕ → Texts
pages_text a opened last = answer_line "undone=# redone=# open=# last=#\n" (a.undone ∷ a.redone ∷ opened ∷ last ∷ [])

unfoldable pub adoption_text : CallAnswer → ℕ → ℕ → Texts
adoption_text a opened last =
    answer_line "won=? greatest=# silent=# total=# undone=# redone=# open=# last=#\n"
    (bit a.won ∷ a.greatest ∷ a.silent ∷ a.total ∷ a.undone ∷ a.redone ∷ opened ∷ last ∷ [])

-- what an accepted line that makes a call prints: an adoption answers what the election does, too
unfoldable pub call_text : Call → CallAnswer → ℕ → ℕ → Texts
call_text (Adopt edit) = adoption_text
call_text call = pages_text

-- THE EFFECT of a line that makes a call
unfoldable pub call_effect : Desk → Call → Effect
call_effect D call = requested D (λ a L. call_text call a L.opened (last L)) (request_of D call)

-- the same from the answer and the open and last page that the code has
unfoldable pub outcome_text : Call → CallAnswer → Turner → ℕ → Texts
outcome_text call a t line = answered_text a.number (call_text call a t.opened t.last) line

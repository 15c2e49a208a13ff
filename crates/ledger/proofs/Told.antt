-- The told answer of a call determines the answer. Assumes nothing.
use mathlib.Core.Path.{◌≡◌, sym, ap}
use Rattle.std.specs.Prelude.{Result, Ok, Err}
use Rattle.refusals.specs.declared.Refusal.{Refusal}
use Rattle.refusals.proofs.Numbers.{refusal-told-unique, number-positive}
use Rattle.ledger.specs.declared.Bench.{Bench}
use Rattle.ledger.specs.declared.CallResult.{CallResult}
use Rattle.ledger.specs.Ledger.{CallAnswer, call_told}
use Rattle.ledger.specs.Bench.{Outcome, told_outcome}

pub call-told-unique : (a b : Result CallResult Refusal) → call_told a ≡ call_told b → a ≡ b
call-told-unique (Ok r) (Ok s) e = λ i. Ok (record {
  undone = (e i).undone;
  redone = (e i).redone;
  election = record { won = (e i).won; greatest = (e i).greatest; silent = (e i).silent; total = (e i).total };
})
call-told-unique (Ok r) (Err s) e = absurd (number-positive s (ap (λ (a : CallAnswer). a.number) (sym e)))
call-told-unique (Err r) (Ok s) e = absurd (number-positive r (ap (λ (a : CallAnswer). a.number) e))
call-told-unique (Err r) (Err s) e = ap Err (refusal-told-unique r s (ap (λ (a : CallAnswer). a.number) e) (ap (λ (a : CallAnswer). a.detail) e))

-- and the told outcome the answer and the bench
pub outcome-told-unique : (a b : Result CallResult Refusal) (c d : Bench) → told_outcome a c ≡ told_outcome b d → (a ≡ b) × (c ≡ d)
outcome-told-unique a b c d e = (call-told-unique a b (ap (λ (r : Outcome). r.answer) e), ap (λ (r : Outcome). r.bench) e)

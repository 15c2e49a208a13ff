-- The bench after a log is the ledger's fed the accepted calls, and the undo rule holds of it. Assumes nothing.
use mathlib.Core.Path.{◌≡◌, refl, ap, ◌∙◌}
use mathlib.Core.Bool.{true, false}
use mathlib.Core.List.{List, [], ◌∷◌}
use Prim.Native.Nat.{ℕ}
use lib.Dec.{eqb}
use Rattle.lists.proofs.Lists.{by}
use Rattle.ledger.specs.Ledger.{Ledger, Call, start, fed, judge, step, refusal}
use Rattle.ledger.specs.declared.Bench.{Bench}
use Rattle.ledger.specs.Bench.{bench_of, Linked, outcomes, Undo}
use Rattle.ledger.proofs.Undone.{undo-rule}
use Rattle.ledger.proofs.Alike.{linked-of}
use Rattle.log_session.specs.Desk.{ledger_of, bench_in}
use Rattle.log_run.specs.Log.{log_run, accepted}

refused-stays : (L : Ledger) (call : Call) → eqb (judge L call) 0 ≡ false → (step L call).after ≡ L
unfolding step refusal
refused-stays L call e = rw e refl

-- refused calls leave the ledger as it was, so that feeding the accepted ones alone comes to the same
pub accepted-only : (L : Ledger) (calls : List Call) → fed L calls ≡ fed L (accepted L calls)
unfolding fed accepted
accepted-only L [] = refl
accepted-only L (call ∷ rest) =
    by (eqb (judge L call) 0)
    (λ (e : eqb (judge L call) 0 ≡ true). rw e (accepted-only (step L call).after rest))
    (λ (e : eqb (judge L call) 0 ≡ false). rw e (ap (λ (M : Ledger). fed M rest) (refused-stays L call e) ∙ accepted-only L rest))

-- THE UNDO RULE SEEN FROM OUTSIDE: the bench after a log is what the ledger is, fed the accepted calls of the log's lines
pub log-bench : (log : List ℕ) → bench_in (log_run log).desk ≡ bench_of (fed start (accepted start (log_run log).desk.calls))
unfolding bench_in ledger_of
log-bench log = ap bench_of (accepted-only start (log_run log).desk.calls)

-- THE UNDO RULE OF A RUN: the bench after a log is what the calls that its lines made come to, one after the other; and so the rule holds of them
module _ (log : List ℕ) {bench : Bench} (e : bench ≡ bench_in (log_run log).desk) where
  pub log-linked : Linked (bench_of start) (log_run log).desk.calls (outcomes start (log_run log).desk.calls) bench
  unfolding bench_in ledger_of
  log-linked = rw e (linked-of (log_run log).desk.calls)

  pub log-undo : Undo (log_run log).desk.calls (outcomes start (log_run log).desk.calls) bench
  log-undo = undo-rule log-linked

-- What a line comes to, by its command. Assumes nothing.
use mathlib.Core.Path.{◌≡◌, ap, ◌∙◌}
use mathlib.Core.Bool.{true, false}
use Prim.Native.Nat.{ℕ, ◌<◌}
use native.Mathlib.Omega.{arith}
use lib.Dec.{ltb}
use borrow.Author.Tests.{lt-ltb, le-ltb}
use Rattle.std.specs.Prelude.{Err}
use Rattle.refusals.specs.declared.Refusal.TheVariants.{OutOfRange}
use Rattle.record.specs.declared.Record as declared
use Rattle.record.specs.Stored.{stored}
use Rattle.lists.proofs.Lists.{le-by}
use Rattle.ledger.specs.declared.Bench.{Bench}
use Rattle.ledger.specs.Ledger.{Call, merge, start}
use Rattle.ledger.specs.Bench.{Outcome, Answers, bench_of, told_outcome}
use Rattle.ledger.proofs.Valid.{Valid, start-valid, fed-valid}
use Rattle.log_commands.specs.declared.Call.{Call as Calls}
use Rattle.log_commands.specs.declared.Call.TheVariants.{Merge}
use Rattle.log_session.specs.Desk.{Desk, outside, make, ledger_of, bench_in, replied}
use Rattle.log_session.specs.Requests.{request_of}

-- the ledger that calls left
pub ledger-valid : (D : Desk) → Valid (ledger_of D)
unfolding ledger_of
ledger-valid D = fed-valid start D.calls start-valid

-- its record, in the bench in memory
pub multilog-stored : (D : Desk) {multilog : declared.Record} → multilog ≡ (bench_in D).multilog → multilog ≡ stored (ledger_of D).multilog
unfolding bench_in bench_of
multilog-stored D e = e

pub bench-stored : (D : Desk) {bench : Bench} → bench ≡ bench_in D → bench.multilog ≡ stored (ledger_of D).multilog
bench-stored D e = multilog-stored D (ap (λ (b : Bench). b.multilog) e)

-- a request, and what the code gives for it
module _ (D : Desk) {bench : Bench} {r : Outcome} (b : bench ≡ bench_in D) where
  reply-outside : r ≡ told_outcome (Err OutOfRange) bench → r ≡ replied D outside
  unfolding replied
  reply-outside q = q ∙ ap (told_outcome (Err OutOfRange)) b

  reply-made : (call : Call) → Answers bench call r → r ≡ replied D (make call)
  unfolding replied Answers ledger_of bench_in
  reply-made call a = a D.calls b

  -- of the line that it is
  module _ {call line : Calls} (e : call ≡ line) where
    reply-as : r ≡ replied D (request_of D line) → r ≡ replied D (request_of D call)
    reply-as q = rw e q

    pub call-reply : (made : Call) {given : Call} → request_of D line ≡ make made → given ≡ made → Answers bench given r → r ≡ replied D (request_of D call)
    call-reply made q g a = reply-as (rw q (reply-made made (rw g at a)))

  pub merge-reply : {call : Calls} (k : ℕ) → call ≡ Merge k → (8 < k → r ≡ told_outcome (Err OutOfRange) bench) → (k < 9 → Answers bench (merge (D.lent.edits k) (D.lent.constraints k)) r)
      → r ≡ replied D (request_of D call)
  unfolding request_of
  merge-reply k e f g =
      reply-as e (le-by 9 k
      (λ h. let q : ltb k 9 ≡ false = le-ltb k 9 h in rw q (reply-outside (f (omega arith))))
      (λ h. let q : ltb k 9 ≡ true = lt-ltb k 9 h in rw q (reply-made (merge (D.lent.edits k) (D.lent.constraints k)) (g h))))

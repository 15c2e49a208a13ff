-- `Lending::lend_seat` meets its contract. Assumes nothing.
use mathlib.Core.Path.{◌≡◌}
use borrow.Author.Rules.{rules}
use Rattle.refusals.specs.Numbers.{number, number_of}
use Rattle.log_lent.proofs.Settings.{no-seat, seat-past, seat-lent}
use Rattle.log_lent.proofs.Lending.lend_seat.Goals as goal

pub returns-in_err-seat : goal.returns-in_err-seat
returns-in_err-seat c =
    let n : number_of c.from_residual.result ≡ number c.in_err-seat.field-0.0 = search rules in
    λ L K. rw n (no-seat K _ _ _ c.in_err-seat.ensures.0)

pub returns-then-self-lt-ROLL_PLACES : goal.returns-then-self-lt-ROLL_PLACES
returns-then-self-lt-ROLL_PLACES c = λ L K. let q = c.in_ok-seat.ensures in seat-lent K _ _ q.0 q.1 c.if-self-lt-ROLL_PLACES.true

pub returns-else-self-lt-ROLL_PLACES : goal.returns-else-self-lt-ROLL_PLACES
returns-else-self-lt-ROLL_PLACES c = λ L K. let q = c.in_ok-seat.ensures in seat-past K _ _ q.0 q.1 c.if-self-lt-ROLL_PLACES.false

-- `plus` meets its contract. Assumes nothing.
use native.Mathlib.Omega.{arith}
use Rattle.fraction.proofs.Bounds.{part-fits, plus-wide, plus-scaled-wide, plus-sum-wide, plus-told}
use Rattle.fraction.proofs.Fraction.plus.Goals as goal

pub returns-in_err-denominator : goal.returns-in_err-denominator
returns-in_err-denominator c = rw c.from_residual.ensures (plus-wide c.args.self c.args.share c.requires c.in_err-denominator.ensures)

pub returns-in_err-scaled : goal.returns-in_err-scaled
returns-in_err-scaled c =
    rw c.from_residual-in_err-scaled.ensures
    (plus-scaled-wide c.args.self c.args.share c.requires c.in_ok-denominator.denominator c.in_ok-denominator.ensures (omega (arith, c.in_err-scaled.ensures)))

pub overflow_mul-added : goal.overflow_mul-added
overflow_mul-added c = record { fits = part-fits c.args.self c.args.share c.requires c.in_ok-denominator.denominator c.in_ok-denominator.ensures }

pub returns-in_err-numerator : goal.returns-in_err-numerator
returns-in_err-numerator c =
    rw c.from_residual-in_err-numerator.ensures
    (plus-sum-wide c.args.self c.args.share c.requires c.in_ok-denominator.denominator c.in_ok-denominator.ensures c.in_ok-scaled.scaled c.in_ok-scaled.ensures.1 (omega (arith, c.in_err-numerator.ensures)))

pub returns : goal.returns
returns c =
    let w = c.in_ok-numerator.ensures in
    plus-told c.args.self c.args.share c.requires c.in_ok-denominator.denominator c.in_ok-denominator.ensures c.in_ok-scaled.scaled c.in_ok-scaled.ensures.1 c.in_ok-numerator.numerator w.1 (omega (arith, w.0, w.1))

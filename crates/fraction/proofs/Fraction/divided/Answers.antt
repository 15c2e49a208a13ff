-- `divided` meets its contract. Assumes nothing.
use native.Mathlib.Omega.{arith}
use Rattle.fraction.proofs.Bounds.{divided-wide, divided-told}
use Rattle.fraction.proofs.Fraction.divided.Goals as goal

pub returns-in_err-denominator : goal.returns-in_err-denominator
returns-in_err-denominator c =
    rw c.from_residual.ensures
    (divided-wide c.args.self c.args.count c.requires.0 c.requires.1 c.lowest_terms-reduced.result c.lowest_terms-parts.result c.lowest_terms-reduced.ensures c.lowest_terms-parts.ensures (omega (arith, c.in_err-denominator.ensures)))

pub returns : goal.returns
returns c =
    let w = c.in_ok-denominator.ensures in
    divided-told c.args.self c.args.count c.requires.0 c.requires.1 c.lowest_terms-reduced.result c.lowest_terms-parts.result c.lowest_terms-reduced.ensures c.lowest_terms-parts.ensures c.in_ok-denominator.denominator w.1 (omega arith) (omega (arith, w.0, w.1))

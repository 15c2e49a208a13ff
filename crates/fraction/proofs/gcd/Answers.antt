-- `gcd` meets its contract: Euclid's step leaves the greatest common divisor. Assumes nothing.
use mathlib.Core.Path.{◌≡◌, ap, sym, ◌∙◌}
use native.Mathlib.Omega.{arith}
use Rattle.fraction.specs.Divisor.{gcd}
use Rattle.fraction.proofs.Divisors.{gcd-step, gcd-none}
use Rattle.fraction.proofs.gcd.Goals as goal

pub loop-y-preserved : goal.loop-y-preserved
loop-y-preserved c = sym (gcd-step c.loop-y.x c.loop-y.y) ∙ c.loop-y.invariant

pub returns : goal.returns
returns c =
    let x = c.loop-y.x in
    let z : c.loop-y.y ≡ 0 = omega arith in
    sym (gcd-none x) ∙ ap (gcd x) (sym z) ∙ c.loop-y.invariant

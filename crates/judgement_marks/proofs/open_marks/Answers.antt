-- `open_marks` meets its contract. Assumes nothing.
use Prim.Native.Nat.{◌<◌}
use mathlib.Core.Path.{refl}
use lib.ListN.{length}
use native.Mathlib.Omega.{arith}
use Rattle.judgement_marks.proofs.Opening.{openings-start, openings-step, openings-end}
use Rattle.record.specs.Record.{names}
use Rattle.judgement_marks.proofs.open_marks.Goals as goal

pub loop-b-init : goal.loop-b-init
loop-b-init c = (refl, λ R g q e. openings-start R)

pub loop-b-preserved : goal.loop-b-preserved
loop-b-preserved c =
    let l = c.loop-b in (
      c.open_pairs.array_long,
      λ R g q e. let k : l.b < length (names R) = omega (arith, q) in openings-step R c.args.graph.now.rows g l.b l.openmarks _ k (c.open_pairs.ensures R g k e) (l.invariant.1 R g q e),
    )

pub returns : goal.returns
returns c =
    let l = c.loop-b in
    λ R g q e. openings-end R c.args.graph.now.rows g l.b l.openmarks (omega (arith, q)) l.invariant.0 (l.invariant.1 R g q e)

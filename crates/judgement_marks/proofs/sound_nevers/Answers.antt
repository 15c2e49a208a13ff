-- `sound_nevers` meets its contract. Assumes nothing.
use mathlib.Core.Path.{refl, ap, ◌∙◌}
use mathlib.Core.Bool.{cond}
use lib.ListN.{length-set}
use native.Mathlib.Omega.{arith}
use Rattle.lists.proofs.Tests.{byte-bit}
use Rattle.judgement_marks.proofs.Standing.{marks-values}
use Rattle.graph.proofs.links.Marks.{filled-start, filled-step, filled-end}
use Rattle.record.specs.Judgement.{never}
use Rattle.judgement_marks.proofs.sound_nevers.Goals as goal

pub loop-x-init : goal.loop-x-init
loop-x-init c = (refl, λ R g q e u. filled-start R _)

pub loop-x-preserved : goal.loop-x-preserved
loop-x-preserved c =
    let l = c.loop-x in
    let t = c.reversed-reversed in (
      length-set l.marks l.x c.from.result ∙ l.invariant.0,
      λ R g q e u. filled-step R _ l.x l.marks c.from.result (omega (arith, l.invariant.0))
          (c.from.ensures ∙ byte-bit _ ∙ ap (λ b. cond b 1 0) (c.is_never.ensures R g (t.ensures R g.notafters q) q (omega arith) e u (l.invariant.1 R g q e u).done)) (l.invariant.1 R g q e u),
    )

pub returns : goal.returns
returns c =
    let l = c.loop-x in
    λ R g q e u. filled-end R _ l.x l.marks g.notafters.few l.invariant.0 (omega (arith, q)) (l.invariant.1 R g q e u) ∙ marks-values R (never R)

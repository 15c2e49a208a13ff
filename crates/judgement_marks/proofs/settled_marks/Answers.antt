-- `settled_marks` meets its contract. Assumes nothing.
use mathlib.Core.Path.{refl, ap, ◌∙◌}
use mathlib.Core.Bool.{cond}
use lib.ListN.{length-set}
use native.Mathlib.Omega.{arith}
use Rattle.lists.proofs.Tests.{byte-bit}
use Rattle.judgement_marks.proofs.Standing.{marks-values, settled-is-by}
use Rattle.graph.proofs.links.Marks.{filled-start, filled-step, filled-end}
use Rattle.record.specs.Judgement.{settled}
use Rattle.judgement_marks.proofs.settled_marks.Goals as goal

pub loop-x-init : goal.loop-x-init
loop-x-init c = (refl, λ R g q d e. filled-start R _)

pub loop-x-preserved : goal.loop-x-preserved
loop-x-preserved c =
    let l = c.loop-x in (
      length-set l.marks l.x c.from.result ∙ l.invariant.0,
      λ R g q d e. filled-step R _ l.x l.marks c.from.result (omega (arith, l.invariant.0))
          (c.from.ensures ∙ byte-bit _ ∙ ap (λ b. cond b 1 0) (c.is_settled.ensures ∙ settled-is-by R _ _ _ l.x d e (c.open_marks-openmarks.ensures R g q e) (omega arith))) (l.invariant.1 R g q d e),
    )

pub returns : goal.returns
returns c =
    let l = c.loop-x in
    λ R g q d e. filled-end R _ l.x l.marks g.notafters.few l.invariant.0 (omega (arith, q)) (l.invariant.1 R g q d e) ∙ marks-values R (settled R)

-- `Level::relax_to` meets its contract. Assumes nothing.
use Rattle.std.proofs.Common.{arith, rules}
use Rattle.reasons_costs.proofs.Relaxing.{relaxed-off, relaxing-start, relaxing-step, relaxing-end}
use Rattle.reasons_costs.proofs.Level.relax_to.Goals as goal

pub returns-then-costs-b : goal.returns-then-costs-b
returns-then-costs-b c = record { covers = λ level f. f; relaxes = relaxed-off c.if-costs-b.true }

pub loop-left-init : goal.loop-left-init
loop-left-init c =
    let e = c.lefts-left-items.ensures in
    let base = c.base.ensures in
    rw c.into_iter-left-iterator.ensures.into_iter_gives (
      e.row.1,
      search rules,
      relaxing-start (omega (arith, base.is, base.low)) (search rules) (rw base.is at e.row) e.rows,
      λ level f. f,
    )

pub loop-left-preserved : goal.loop-left-preserved
loop-left-preserved c =
    let l = c.loop-left.invariant in
    let covers = c.limit_cost.ensures.covers in (
      search rules,
      search rules,
      rw c.limit_cost.ensures.is (relaxing-step c.in-Some.ensures.steps l.2),
      λ level f. covers level (l.3 level f),
    )

pub returns : goal.returns
returns c = record { covers = c.loop-left.invariant.3; relaxes = relaxing-end c.in-None.ensures.steps.1 c.loop-left.invariant.2 }

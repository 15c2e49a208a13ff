-- `Search::least_costs` meets its contract. Assumes nothing.
use mathlib.Core.Logic.{inl, inr}
use Rattle.std.proofs.Common.{arith}
use Rattle.reasons_costs.proofs.Least.{least-settled}
use Rattle.reasons_costs.proofs.Settling.{spanned-start, spanned-step, spanned-end}
use Rattle.reasons_costs.proofs.Search.least_costs.Goals as goal
use Rattle.reasons_costs.proofs.Search.least_costs.Goals.{then-cost-highest, else-cost-highest}

pub loop-cost-init : goal.loop-cost-init
loop-cost-init c keys g = spanned-start c.highest_cost-highest.ensures

pub returns-then-is_empty : goal.returns-then-is_empty
returns-then-is_empty c R aim g e q =
    let l = c.loop-cost.invariant in
    least-settled g q q.relation e (λ keys h y k. spanned-end (c.is_empty.ensures c.if-is_empty.true) (l keys h) y (omega (arith, k, g.notafters.few)))
    (λ keys h. (l keys h).settled)

pub loop-cost-preserved : goal.loop-cost-preserved
loop-cost-preserved c keys g =
    spanned-step (c.loop-cost.invariant keys g) (c.relax-next.ensures.relaxes keys g) c.relax-next.ensures.covers
    (elim c.if-cost-highest.branch [ then-cost-highest w ↦ inl w.span-is | else-cost-highest w ↦ inr (w.if-cost-highest.false, w.span-is) ])

pub returns : goal.returns
returns c R aim g e q = least-settled g q q.relation e (λ keys h y k l. omega (arith, l)) (λ keys h. (c.loop-cost.invariant keys h).settled)

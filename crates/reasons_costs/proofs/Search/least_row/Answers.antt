-- `Search::least_row` meets its contract. Assumes nothing.
use mathlib.Core.Path.{◌≡◌, ◌∙◌}
use lib.ListN.{replicate, length-set}
use Rattle.std.proofs.Common.{arith, rules}
use Rattle.reasons_costs.proofs.Descent.{descending-start, descending-step, descending-end, descending-full}
use Rattle.reasons_costs.proofs.Search.least_row.Goals as goal

pub loop-count-init : goal.loop-count-init
loop-count-init c = (search rules, c.requires, λ R aim g e a q k h f. descending-start (replicate 128 0) (omega arith) h f)

pub returns-in_default : goal.returns-in_default
returns-in_default c R aim g e a q k h f =
    let l = c.loop-count in
    let d = l.invariant.2 R aim g e a q k h f in
    descending-end g a q k _ d h (omega (arith, l.invariant.0)) (rw (e, q.relation) at (c.in_default.ensures.is R g e d.last-low))

pub loop-count-preserved : goal.loop-count-preserved
loop-count-preserved c =
    let l = c.loop-count in
    let next = c.in-Some.ensures in (
      length-set l.indexes l.count c.in-Some.next ∙ l.invariant.0,
      omega (arith, next.low, c.args.graph.now.few),
      λ R aim g e a q k h f.
          let d = l.invariant.2 R aim g e a q k h f in
          descending-step g a q k d h (omega (arith, l.invariant.0)) (omega (arith, next.low, e)) (rw q.relation at (next.is R g e d.last-low)),
    )

pub returns : goal.returns
returns c R aim g e a q k h f =
    let l = c.loop-count in
    let all : l.count ≡ 128 = omega arith in
    descending-full g a q k _ (rw all at l.invariant.2 R aim g e a q k h f) h (omega (arith, l.invariant.0)) g.notafters.few

-- `open_pairs` meets its contract. Assumes nothing.
use Rattle.std.proofs.Common.{arith, rules}
use Rattle.judgement_marks.proofs.Opening.{opening-start, opening-step, opening-end}
use Rattle.judgement_marks.proofs.open_pairs.Goals as goal

pub loop-a-init : goal.loop-a-init
loop-a-init c =
    let e = c.lefts-a-items.ensures in
    rw c.into_iter-a-iterator.ensures.into_iter_gives (e.row.1, search rules, opening-start (omega arith) c.requires e.row e.rows)

pub open_pair-requires : goal.open_pair-requires
open_pair-requires c = (c.in-Some.ensures.steps.1.1.1, c.requires)

pub loop-a-preserved : goal.loop-a-preserved
loop-a-preserved c = (search rules, search rules, opening-step c.in-Some.ensures.steps c.open_pair.array_long c.open_pair.ensures c.loop-a.invariant.2)

pub returns : goal.returns
returns c = opening-end c.in-None.ensures.steps.1 c.loop-a.invariant.2

-- `schedules::lowest_freed` meets its contract. Assumes nothing.
use Rattle.std.proofs.Common.{rules}
use Rattle.judgement_marks.proofs.schedules.Ordering.{freeing-start, freeing_step, freeing-end}
use Rattle.judgement_marks.proofs.schedules.lowest_freed.Goals as goal

pub loop-y-init : goal.loop-y-init
loop-y-init c =
    let e = c.lefts-y-items.ensures in
    rw c.into_iter-y-iterator.ensures.into_iter_gives (e.row.1, search rules, freeing-start c.requires e.row e.rows)

pub lower_free-best-requires : goal.lower_free-best-requires
lower_free-best-requires c = c.in-Some.ensures.steps.1.1.1

pub loop-y-preserved : goal.loop-y-preserved
loop-y-preserved c =
    let f = c.lower_free-best.ensures in (search rules, search rules, freeing_step c.in-Some.ensures.steps f.0 f.1 c.loop-y.invariant.2)

pub returns : goal.returns
returns c = (c.loop-y.invariant.2.under, freeing-end c.in-None.ensures.steps.1 c.loop-y.invariant.2)

-- `schedules::is_free` meets its contract. Assumes nothing.
use Rattle.std.proofs.Common.{ne_eqb}
use Rattle.lists.proofs.Lists.{by}
use Rattle.judgement_marks.proofs.schedules.Ordering.{free-not, free-held, free-yes}
use Rattle.judgement_marks.proofs.schedules.is_free.Goals as goal

pub returns-then-waits-x-eq1 : goal.returns-then-waits-x-eq1
returns-then-waits-x-eq1 c R p g k e =
    by c.any_row.result
    (λ q. rw q (free-held R p c.args.rows.now c.args.waits.now g c.args.x k e (c.any_row.ensures.some q)))
    (λ q. rw q (free-yes R p c.args.rows.now c.args.waits.now g c.args.x k e c.if-waits-x-eq1.true (c.any_row.ensures.none q)))

pub returns-else-waits-x-eq1 : goal.returns-else-waits-x-eq1
returns-else-waits-x-eq1 c R p g k e =
    rw (ne_eqb _ 1 c.if-waits-x-eq1.false) (free-not R p c.args.rows.now c.args.waits.now g c.args.x k e c.if-waits-x-eq1.false)

-- `links::mark` meets its contract. Assumes nothing.
use Rattle.std.proofs.Common.{arith, rules, ◌<◌, ◌≡◌, sym, ◌∙◌, length, length-set, get_or-set_same}
use Rattle.graph.proofs.links.Reach.{marked-was, going_start, going_step, going_end, unmarked-less, on-set}
use Rattle.graph.proofs.links.+mark.Goals as goal

pub returns-then-marks-x-eq1 : goal.returns-then-marks-x-eq1
returns-then-marks-x-eq1 t c = marked-was c.if-marks-x-eq1.true

pub loop-left-init : goal.loop-left-init
loop-left-init t c =
    let e = c.lefts-left-items.ensures in
    rw c.into_iter-left-iterator.ensures.into_iter_gives
    (e.row.1, search rules, going_start (omega arith) (get_or-set_same c.args.marks.now c.args.x 1 0 (omega arith)) e.row e.rows)

pub mark-requires : goal.mark-requires
mark-requires t c =
    let l = c.loop-left in
    let i = l.invariant.2 in
    let k : c.args.x < length c.args.marks.now = omega arith in
    let e : length l.marks ≡ length c.args.marks.now = i.size ∙ length-set c.args.marks.now c.args.x 1 in
    (rw (← c.decreases) (unmarked-less c.args.marks.now l.marks c.args.x (sym e) k c.if-marks-x-eq1.false (i.kept _ i.was) (λ y o. i.kept y (on-set c.args.marks.now c.args.x y k o))), (c.requires.base, c.in-Some.ensures.steps.1.1.1))

pub loop-left-preserved : goal.loop-left-preserved
loop-left-preserved t c = (search rules, search rules, going_step c.requires.low c.in-Some.ensures.steps c.loop-left.invariant.2 c.mark.ensures)

pub returns : goal.returns
returns t c = going_end (omega arith) c.in-None.ensures.steps.1 c.loop-left.invariant.2

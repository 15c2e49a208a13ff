-- `links::visit` meets its contract. Assumes nothing.
use Rattle.std.proofs.Common.{arith, rules, ◌≡◌, ◌∙◌, length, length-set}
use Rattle.graph.proofs.links.Reach.{unmarked-le}
use Rattle.graph.proofs.links.Search.{visited-ring, visited-was, walking_start, walking-step, walking-ring, walking-end, walking-less}
use Rattle.graph.proofs.links.+visit.Goals as goal

pub returns-then-v-eq-OPEN : goal.returns-then-v-eq-OPEN
returns-then-v-eq-OPEN t c = visited-ring c.if-v-eq-OPEN.true

pub returns-then-v-ne1 : goal.returns-then-v-ne1
returns-then-v-ne1 t c = visited-was c.if-v-eq-OPEN.false c.if-v-ne1.true

pub loop-left-init : goal.loop-left-init
loop-left-init t c =
    let e = c.lefts-left-items.ensures in
    rw c.into_iter-left-iterator.ensures.into_iter_gives (e.row.1, search rules, walking_start c.args.states.now (omega arith) c.requires e.row e.rows)

pub visit-requires : goal.visit-requires
visit-requires t c =
    let l = c.loop-left in
    let e : length l.states ≡ length c.args.states.now = l.invariant.2.same.size ∙ length-set c.args.states.now c.args.x 2 in
    let z = walking-less c.args.states.now (omega arith) c.if-v-ne1.false l.invariant.2 in
    (rw (← c.decreases) (omega (arith, unmarked-le l.states)), c.in-Some.ensures.steps.1.1.1)

pub returns-then-visit : goal.returns-then-visit
returns-then-visit t c = walking-ring c.next.new.self (omega arith) c.if-v-ne1.false c.in-Some.ensures.steps c.if-visit.true c.loop-left.invariant.2 c.visit.ensures

pub loop-left-preserved : goal.loop-left-preserved
loop-left-preserved t c = (search rules, search rules, walking-step c.in-Some.ensures.steps c.if-visit.false c.loop-left.invariant.2 c.visit.ensures)

pub returns : goal.returns
returns t c = walking-end (omega arith) c.if-v-ne1.false c.in-None.ensures.steps.1 c.loop-left.invariant.2

-- `ranking::with_orders` meets its contract. Assumes nothing.
use mathlib.Core.Path.{ap, ◌∙◌}
use Prim.Native.Nat.{◌+◌}
use Rattle.std.specs.Prelude.{Err, flat_map, take}
use Rattle.std.proofs.lemmas.Result.{err_from_is_err_and}
use Rattle.record.specs.Stored.{filler_constraint}
use Rattle.voting_drafts.specs.ranking.Ranking.{pair_order}
use Rattle.voting_drafts.proofs.ranking.Joins.{joins-start, joined-end, joined-full}
use Rattle.voting_drafts.proofs.ranking.Ordered.{ranked-next}
use Rattle.lists.proofs.Union.{ascending-united}
use Rattle.record_tables.specs.Table.{constraint_key}
use Rattle.voting_drafts.proofs.ranking.with_orders.Goals as goal

pub loop-c-init : goal.loop-c-init
loop-c-init g c = λ t ranks k e a. joins-start (pair_order ranks) t c.args.pairs.now e

pub returns-in_err-out : goal.returns-in_err-out
returns-in_err-out g c = λ t ranks k e a.
    let l = c.loop-c in
    let p = err_from_is_err_and c.from_residual.result c.from_residual.ensures.1 in
    p.1 ∙ ap Err p.2
    ∙ joined-full (pair_order ranks) t c.args.pairs.now (l.c-index + 1)
    (ranked-next ranks t c.args.pairs.now l.c-index filler_constraint c.loop-c-test.true (k _ _ c.rank.ensures) (k _ _ c.rank-in-loop-c.ensures)
    (c.in_err-out.ensures _ (l.invariant t ranks k e a) (ascending-united constraint_key t (flat_map (pair_order ranks) (take l.c-index c.args.pairs.now)) a)))

pub loop-c-preserved : goal.loop-c-preserved
loop-c-preserved g c = λ t ranks k e a.
    let l = c.loop-c in
    ranked-next ranks t c.args.pairs.now l.c-index filler_constraint c.loop-c-test.true (k _ _ c.rank.ensures) (k _ _ c.rank-in-loop-c.ensures)
    (c.in_ok-out.ensures _ (l.invariant t ranks k e a) (ascending-united constraint_key t (flat_map (pair_order ranks) (take l.c-index c.args.pairs.now)) a))

pub returns : goal.returns
returns g c = λ t ranks k e a. joined-end (pair_order ranks) t c.args.pairs.now c.loop-c.c-index c.loop-c-test.false (c.loop-c.invariant t ranks k e a)

-- `row_test::seat_row` meets its contract. Assumes nothing.
use Rattle.std.proofs.Common.{refl, ◌+◌, ◌∙◌, length-set}
use Rattle.judgement.proofs.row_test.Seating.{seating-start, unknown-not, repeated-not, seating-step, seating-end, row-index-unknown, row-index-known}
use Rattle.judgement.proofs.row_test.seat_row.Goals as goal

pub loop-q-init : goal.loop-q-init
loop-q-init c = (refl, λ R f t. seating-start R _)

pub returns-in_err-index : goal.returns-in_err-index
returns-in_err-index c R f t =
    let l = c.loop-q in
    rw c.from_residual.ensures (unknown-not R f c.args.row.now l.places l.q c.loop-q-test.true (row-index-unknown R _ (c.in_err-index.ensures.is R f t)), tt)

pub returns-then-places-index-ne0 : goal.returns-then-places-index-ne0
returns-then-places-index-ne0 c R f t =
    let l = c.loop-q in
    let i = row-index-known R _ _ (c.in_ok-index.ensures.is R f t) in
    (repeated-not R f c.args.row.now l.places l.q c.loop-q-test.true l.invariant.0 (l.invariant.1 R f t) i.0 (rw (← i.1) c.if-places-index-ne0.true), tt)

pub loop-q-preserved : goal.loop-q-preserved
loop-q-preserved c =
    let l = c.loop-q in (
      length-set l.places c.in_ok-index.index (l.q + 1) ∙ l.invariant.0,
      λ R f t. let i = row-index-known R _ _ (c.in_ok-index.ensures.is R f t) in
          rw i.1 (seating-step R f c.args.row.now l.places l.q c.loop-q-test.true l.invariant.0 (l.invariant.1 R f t) i.0 (rw (← i.1) c.if-places-index-ne0.false)),
    )

pub returns : goal.returns
returns c R f t = let l = c.loop-q in seating-end R c.args.row.now l.places l.q c.loop-q-test.false (l.invariant.1 R f t)

-- `edits_of` meets its contract. Assumes nothing.
use Rattle.std.proofs.Common.{arith, rules, refl, sym, ◌≡◌, ◌∙◌, ◌-◌, length-set}
use Rattle.judgement.proofs.Listing.{listing_start, listing-init, listing_step, listing-end}
use Rattle.record.specs.Schedule.{schedule}
use Rattle.judgement.proofs.edits_of.Goals as goal

pub loop-q-init : goal.loop-q-init
loop-q-init c = rw c.empty-schedule.ensures (omega arith, omega arith, refl, refl, λ R h e f g. listing_start R (schedule R h))

pub returns-then-index-eq0 : goal.returns-then-index-eq0
returns-then-index-eq0 c R h e f g =
    let l = c.loop-q in
    listing-init R f c.args.multilog e c.args.row (search rules) h g l.q (omega arith) (omega arith) (sym c.from-index.ensures ∙ c.if-index-eq0.true)

pub loop-q-preserved : goal.loop-q-preserved
loop-q-preserved c =
    let l = c.loop-q in (
      omega arith,
      omega arith,
      length-set l.schedule.edits (l.q - 1) _ ∙ l.invariant.2,
      omega arith,
      λ R h e f g. rw c.from-index.ensures (listing_step R f c.args.multilog e c.args.row (search rules) h g l.schedule.edits l.q _ (omega arith) (omega arith) (omega (arith, c.if-index-eq0.false, c.from-index.ensures)) (l.invariant.4 R h e f g)),
    )

pub returns : goal.returns
returns c R h e f g =
    let l = c.loop-q in
    let n : l.q - 1 ≡ c.args.row.count - 1 = omega (arith, l.invariant.0, l.invariant.1, c.loop-q-test.false) in
    rw (l.invariant.3 ∙ n) (listing-end R f c.args.multilog e c.args.row (search rules) h g l.schedule.edits l.q n (l.invariant.4 R h e f g))

-- `schedules::page_values` meets its contract. Assumes nothing.
use Prim.Native.Nat.{◌-◌}
use mathlib.Core.Path.{refl, ◌∙◌}
use lib.ListN.{length-set}
use native.Mathlib.Omega.{arith}
use Rattle.judgement_marks.proofs.schedules.Paging.{paging-start, paging-step, paging-end, one-back, zero_left}
use Rattle.judgement_marks.proofs.schedules.page_values.Goals as goal

pub loop-k-init : goal.loop-k-init
loop-k-init c =
    (omega arith, refl, λ R list d few k. paging-start R d few c.args.row list (omega arith) k)

pub loop-k-preserved : goal.loop-k-preserved
loop-k-preserved c =
    let l = c.loop-k in (
      omega arith,
      length-set l.pages c.from.result (l.k - 1) ∙ l.invariant.1,
      λ R list d few k. rw c.from.ensures (paging-step R d few c.args.row list (omega arith) k l.pages (l.k - 1) l.invariant.1 (omega arith) (rw (one-back l.k (omega arith)) (l.invariant.2 R list d few k))),
    )

pub returns : goal.returns
returns c =
    let l = c.loop-k in
    λ R list d few k. paging-end R d few c.args.row list (omega arith) k l.pages l.invariant.1 (rw (zero_left l.k (omega arith)) at (l.invariant.2 R list d few k))

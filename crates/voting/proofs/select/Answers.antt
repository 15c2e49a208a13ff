-- `select` meets its contract. Assumes nothing.
use mathlib.Core.Path.{sym}
use mathlib.Core.Bool.{true, false}
use native.Mathlib.Omega.{arith}
use Rattle.lists.specs.Lists.{Has}
use Rattle.lists.proofs.Logic.{has-get_or}
use Rattle.voting.proofs.Selecting.{selected-start, selected-kept, selected-skip}
use Rattle.voting.proofs.select.Goals as goal
use Rattle.voting.proofs.select.Goals.{then-test, else-test}

pub loop-x-init : goal.loop-x-init
loop-x-init g c = (c.requires.callable, omega arith, λ p f. selected-start p c.args.from.now c.args.into.now)

pub loop-x-preserved : goal.loop-x-preserved
loop-x-preserved g c = let lt = c.loop-x-test.true in
    let l = c.loop-x in
    let x = c.x-item.result in
    let has : Has x c.args.from.now = rw c.x-item.is (has-get_or c.args.from.now l.x-index _ lt) in
    elim c.if-test.branch [
      | then-test w ↦ (
        c.requires.callable,
        omega arith,
        λ p f. rw (w.count-is, w.into-is)
            (selected-kept p c.args.from.now c.args.into.now l.x-index l.count l.into _ x c.x-item.is lt (l.invariant.2 p f) l.invariant.1 c.requires.places (sym (f x true has w.if-test.ensures))),
      )
      | else-test w ↦ (
        c.requires.callable,
        omega arith,
        λ p f. rw (w.count-is, w.into-is) (selected-skip p c.args.from.now c.args.into.now l.x-index l.count l.into _ x c.x-item.is lt (l.invariant.2 p f) (sym (f x false has w.if-test.ensures))),
      )
    ]

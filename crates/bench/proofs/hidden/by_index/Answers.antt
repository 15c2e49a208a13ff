use Prim.Native.Nat.{ℕ}
use mathlib.Core.Path.{refl, ap, ◌∙◌}
use mathlib.Core.List.{List}
use lib.ListN.{get_or, length, length-set}
use native.Mathlib.Omega.{arith}
use Rattle.record.specs.declared.Edit.{Edit}
use Rattle.record.specs.Stored.{filler_edit}
use Rattle.graph.proofs.indexes.Tables.{stored-edits}
use Rattle.bench.specs.hidden.Marks.{mark_named}
use Rattle.bench.proofs.hidden.Named.{indexed-none, indexed-next, indexed-end}
use Rattle.bench.proofs.hidden.by_index.Goals as goal

pub loop-i-init : goal.loop-i-init
loop-i-init c = (refl, λ R test e k z f. indexed-none R test z)

pub loop-i-preserved : goal.loop-i-preserved
loop-i-preserved c =
    let l = c.loop-i in (
      length-set l.marks _ _ ∙ l.invariant.0,
      λ R test e k z f.
          let same = stored-edits _ R _ e c.edit_slice-edit-items.ensures in
          let named = c.from.ensures ∙ ap (λ (t : List Edit). (get_or t l.i filler_edit).name) same in
          indexed-next R test k (mark_named c.args.index.now c.args.hidden) l.marks l.i _ _ (omega (arith, c.loop-i-test.true, ap length same)) l.invariant.0
          (ap (λ (j : ℕ). get_or c.args.hidden j 0) (c.index_of.ensures.is ∙ ap (λ (x : ℕ). get_or c.args.index.now x 0) named)) f (l.invariant.1 R test e k z f),
    )

pub returns : goal.returns
returns c = λ R test e k z f.
    let l = c.loop-i in
    let same = stored-edits _ R _ e c.edit_slice-edit-items.ensures in
    indexed-end R test k l.marks l.i (omega (arith, l.auto.i-end, c.loop-i-test.false, ap length same)) l.invariant.0 (l.invariant.1 R test e k z f)

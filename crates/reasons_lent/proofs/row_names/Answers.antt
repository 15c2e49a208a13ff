-- `row_names` meets its contract. Assumes nothing.
use Rattle.std.proofs.Common.{arith, rules}
use mathlib.Core.Path.{◌∙◌}
use Rattle.graph.proofs.indexes.Tables.{stored-edits}
use Rattle.reasons_lent.proofs.Naming.{row-named}
use Rattle.reasons_lent.proofs.row_names.Goals as goal

pub loop-index-preserved : goal.loop-index-preserved
loop-index-preserved c = (
  omega (arith, c.push.ensures.len, c.loop-index.invariant.0),
  λ R e.
      let l = c.loop-index in
      let row = c.args.row.now in
      let edits = stored-edits _ R _ e c.edit_slice.ensures in
      c.push.ensures.items
      ∙ row-named R row.indexes row.count l.index-index edits (omega (arith, c.loop-index-test.true)) (search rules) c.from.ensures c.index_name.ensures
      (l.invariant.1 R e),
)

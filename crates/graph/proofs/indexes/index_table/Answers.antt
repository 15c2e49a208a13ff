-- `indexes::index_table` meets its contract. Assumes nothing.
use Rattle.std.proofs.Common.{arith, rules, refl, ◌+◌, ◌∙◌, length, length-set, ap}
use Rattle.graph.proofs.indexes.Tables.{length-names, indexing-start, indexing-end, stored-edits, table-turn}
use Rattle.graph.proofs.indexes.index_table.Goals as goal
use Rattle.lists.proofs.Arrays.{get_or-zeros}

pub invariant_of-table : goal.invariant_of-table
invariant_of-table c = (search rules, λ x. omega (arith, get_or-zeros 2304 x))

pub loop-i-init : goal.loop-i-init
loop-i-init c = (refl, λ R e f. indexing-start R)

pub loop-i-preserved : goal.loop-i-preserved
loop-i-preserved c =
    let l = c.loop-i in
    let q = c.edit_slice-edit-items.ensures in
    rw c.put_index.ensures (length-set l.table _ _ ∙ l.invariant.0, λ R e f. table-turn R f l.table _ l.i _ l.invariant.0 (stored-edits _ R _ e q) c.loop-i-test.true (l.invariant.1 R e f))

pub returns : goal.returns
returns c R e f =
    let l = c.loop-i in
    indexing-end R l.table (l.i + 1) (omega (arith, length-names R, ap length (stored-edits _ R _ e c.edit_slice-edit-items.ensures))) (l.invariant.1 R e f)

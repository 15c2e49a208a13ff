-- `indexes::rows_of` meets its contract. Assumes nothing.
use Rattle.std.proofs.Common.{arith, rules, ap, ◌∙◌, ◌+◌, length}
use Rattle.graph.proofs.indexes.Resolving.{keys_of, lefts_of, resolving-end, row-turn}
use Rattle.graph.proofs.indexes.Tables.{stored-constraints}
use Rattle.graph.proofs.links.Links.{linking-start}
use Rattle.std.proofs.lemmas.Grind.{common_steps}
use Rattle.graph.proofs.indexes.rows_of.Goals as goal

pub loop-constraint-init : goal.loop-constraint-init
loop-constraint-init c = (search rules, grind (arith, common_steps), λ R e f t. rw c.new-linking.ensures.cells (linking-start (keys_of R) (lefts_of R)))

pub loop-constraint-preserved : goal.loop-constraint-preserved
loop-constraint-preserved c =
    let l = c.loop-constraint in
    let k = c.key_of in
    let a = c.index_of-left in
    let b = c.index_of-right in (
      c.link_row.ensures.count ∙ ap (λ n. n + 1) l.invariant.0,
      l.invariant.1,
      λ R e f t. rw (c.link_row.ensures.cells, l.invariant.0)
          (row-turn R f c.args.table.now l.linking.cells _ l.constraint-index _ k.result b.result a.result t (stored-constraints _ R _ e c.constraint_slice-constraint-items.ensures)
          c.loop-constraint-test.true (rw (← c.from-in-loop-constraint.ensures) b.ensures.is) (rw (← c.from.ensures) a.ensures.is) k.ensures.is
          l.linking.growing.size (omega (arith, c.loop-constraint-test.true, l.invariant.1)) k.ensures.low (l.invariant.2 R e f t)),
    )

pub link_row-requires-clause-room : goal.link_row-requires-clause-room
link_row-requires-clause-room c = omega (arith, c.loop-constraint-test.true, c.loop-constraint.invariant.0, c.loop-constraint.invariant.1)

pub rows-requires : goal.rows-requires
rows-requires c = let l = c.loop-constraint in omega (arith, l.auto.constraint-index-end, l.invariant.0, l.invariant.1)

pub returns : goal.returns
returns c R e f t =
    let l = c.loop-constraint in
    rw c.rows.ensures (resolving-end R f _ l.constraint-index (omega (arith, ap length (stored-constraints _ R _ e c.constraint_slice-constraint-items.ensures))) (l.invariant.2 R e f t))

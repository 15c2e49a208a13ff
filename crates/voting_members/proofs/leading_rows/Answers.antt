-- `leading_rows` meets its contract. Assumes nothing.
use Rattle.std.proofs.Common.{arith, rules, ap, length}
use Rattle.std.proofs.lemmas.Grind.{common_steps}
use Rattle.graph.proofs.indexes.Tables.{stored-constraints}
use Rattle.graph.proofs.links.Links.{linking-start}
use Rattle.voting_members.proofs.Rowing.{member_keys_of, member_lefts_of, rowing-turn, rowing-end}
use Rattle.voting_members.proofs.leading_rows.Goals as goal

pub loop-constraint-init : goal.loop-constraint-init
loop-constraint-init c =
    (search rules, grind (arith, common_steps), λ R e f t g. rw c.new-linking.ensures.cells (linking-start (member_keys_of R) (member_lefts_of R)))

pub link_both-requires : goal.link_both-requires
link_both-requires c =
    let l = c.loop-constraint in record {
      room = omega (arith, c.loop-constraint-test.true, l.invariant.0, l.invariant.1);
      keys = (c.forward_key-forward.ensures.0, c.backward_key-backward.ensures.0);
    }

pub loop-constraint-preserved : goal.loop-constraint-preserved
loop-constraint-preserved c =
    let l = c.loop-constraint in
    let a = c.index_of in
    let b = c.index_of-in-loop-constraint in
    let f = c.forward_key-forward in
    let g = c.backward_key-backward in (
      omega (arith, c.link_both.ensures.count, l.invariant.0),
      l.invariant.1,
      λ R e fit t res. rw (c.link_both.ensures.cells, l.invariant.0)
          (rowing-turn c.args.table.now l.linking.cells _ l.constraint-index _ a.result b.result f.result g.result R (stored-constraints _ R _ e c.constraint_slice-constraint-items.ensures) fit t
          (omega (arith, c.loop-constraint-test.true, l.invariant.1)) c.loop-constraint-test.true (rw (← c.from.ensures) a.ensures.is) (rw (← c.from-in-loop-constraint.ensures) b.ensures.is) (f.ensures.1 R res) (g.ensures.1 R res)
          f.ensures.0 g.ensures.0 l.linking.growing.size (l.invariant.2 R e fit t res)),
    )

pub rows-requires : goal.rows-requires
rows-requires c = let l = c.loop-constraint in omega (arith, l.auto.constraint-index-end, l.invariant.0, l.invariant.1)

pub returns : goal.returns
returns c R e f t g =
    let l = c.loop-constraint in
    rw c.rows.ensures (rowing-end R f _ l.constraint-index (omega (arith, ap length (stored-constraints _ R _ e c.constraint_slice-constraint-items.ensures))) (l.invariant.2 R e f t g))

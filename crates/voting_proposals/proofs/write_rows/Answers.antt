-- `write_rows` meets its contract. Assumes nothing.
use mathlib.Core.Path.{refl, ap, ◌∙◌}
use native.Mathlib.Omega.{arith}
use Rattle.voting_proposals.proofs.Written.{written_next, written-end}
use Rattle.voting_proposals.proofs.write_rows.Goals as goal

pub loop-i-init : goal.loop-i-init
loop-i-init g c = refl

pub loop-i-preserved : goal.loop-i-preserved
loop-i-preserved g c =
    let h = c.loop-i-test.true in
    let k = c.requires in
    written_next g.T.Element.row_of c.args.elements.now c.args.table.now c.loop-i.i c.index-elements-i.result h (omega arith) c.loop-i.invariant
    (c.row.ensures ∙ ap g.T.Element.row_of c.index-elements-i.is)

pub returns : goal.returns
returns g c = written-end g.T.Element.row_of c.args.elements.now c.args.table.now c.loop-i.i c.loop-i.auto.i-end c.loop-i-test.false c.loop-i.invariant

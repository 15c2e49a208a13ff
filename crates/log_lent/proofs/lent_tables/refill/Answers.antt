-- `lent_tables::refill` meets its contract. Assumes nothing.
use mathlib.Core.Path.{ap, ◌∙◌}
use Rattle.log_lent.proofs.lent_tables.Rows.{rows-joined-none, rows-joined-next, rows-joined-all}
use Rattle.log_lent.proofs.lent_tables.refill.Goals as goal

pub loop-element-init : goal.loop-element-init
loop-element-init g c = rows-joined-none g.T.Element.row_of _ _ _ _

pub loop-element-preserved : goal.loop-element-preserved
loop-element-preserved g c =
    rows-joined-next g.T.Element.row_of _ _ _ _ c.loop-element.element-index _ c.loop-element-test.true (c.row.ensures ∙ ap g.T.Element.row_of c.element-item.is) c.push.ensures c.loop-element.invariant

pub returns : goal.returns
returns g c = rows-joined-all g.T.Element.row_of _ _ _ _ c.loop-element.element-index c.loop-element-test.false c.loop-element.invariant

-- `lines_fit` meets its contract. Assumes nothing.
use Rattle.text_writer.proofs.Writing.{leaves_all, leaves-next, leaves-none, leaves-end}
use Rattle.text_writer.proofs.lines_fit.Goals as goal

pub loop-element-init : goal.loop-element-init
loop-element-init g c = leaves_all g.T.Lined.line c.args.elements.now c.args.room

pub returns-in_err-left : goal.returns-in_err-left
returns-in_err-left g c =
    rw c.from_residual.ensures
    (leaves-none g.T.Lined.line c.args.elements.now c.args.room c.loop-element.invariant c.element-item.result c.element-item.is c.loop-element-test.true c.in_err-left.ensures)

pub loop-element-preserved : goal.loop-element-preserved
loop-element-preserved g c =
    leaves-next g.T.Lined.line c.args.elements.now c.args.room c.loop-element.invariant c.element-item.result c.element-item.is c.loop-element-test.true c.in_ok-left.ensures

pub returns : goal.returns
returns g c = leaves-end g.T.Lined.line c.args.elements.now c.args.room c.loop-element.invariant c.loop-element-test.false

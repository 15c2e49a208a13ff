-- `write_lines` meets its contract. Assumes nothing.
use Rattle.text_writer.proofs.Writing.{writes-none, writes-room, writes-next, writes_end}
use Rattle.text_writer.proofs.write_lines.Goals as goal

pub loop-element-init : goal.loop-element-init
loop-element-init g c = writes-none g.T.Lined.line c.args.elements.now c.args.out.now c.requires

pub write_line-at-requires : goal.write_line-at-requires
write_line-at-requires g c =
    writes-room g.T.Lined.line c.args.elements.now c.args.out.now c.loop-element.invariant c.element-item.result c.element-item.is c.loop-element-test.true

pub loop-element-preserved : goal.loop-element-preserved
loop-element-preserved g c =
    writes-next g.T.Lined.line c.args.elements.now c.args.out.now c.loop-element.invariant c.element-item.result c.element-item.is c.loop-element-test.true c.write_line-at.ensures

pub returns : goal.returns
returns g c = writes_end g.T.Lined.line c.args.elements.now c.args.out.now c.loop-element.invariant c.loop-element-test.false

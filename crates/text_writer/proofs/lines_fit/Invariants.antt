use Rattle.text_writer.proofs.Writing.{Leaves}
use Rattle.text_writer.proofs.lines_fit.Given as goal

abbrev pub invariant-loop-element : goal.invariant-loop-element
invariant-loop-element g l = Leaves g.T.Lined.line l.elements l.room l.left l.element-index

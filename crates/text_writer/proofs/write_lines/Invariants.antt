use Rattle.text_writer.proofs.Writing.{Writes}
use Rattle.text_writer.proofs.write_lines.Given as goal

abbrev pub invariant-loop-element : goal.invariant-loop-element
invariant-loop-element g l = Writes g.T.Lined.line l.elements l.initial.out l.out l.at l.element-index

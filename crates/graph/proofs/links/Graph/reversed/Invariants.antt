use Rattle.graph.proofs.links.Reversing.{Reversing}
use Rattle.graph.proofs.links.Graph.reversed.Given as goal

abbrev pub invariant-loop-b : goal.invariant-loop-b
invariant-loop-b l = Reversing l.self.rows l.b l.count l.reversed

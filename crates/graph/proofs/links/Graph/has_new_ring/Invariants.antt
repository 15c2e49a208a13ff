use Rattle.graph.proofs.links.Search.{Searching}
use Rattle.graph.proofs.links.Graph.has_new_ring.Given as goal

abbrev pub invariant-loop-x : goal.invariant-loop-x
invariant-loop-x l = Searching l.self.rows l.old l.initial.states l.x l.states

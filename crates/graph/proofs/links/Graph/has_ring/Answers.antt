-- `links::has_ring` meets its contract. Assumes nothing.
use mathlib.Core.List.{[]}
use Rattle.graph.proofs.links.Marks.{none-marked}
use Rattle.graph.proofs.links.Rings.{no-ring-none}
use Rattle.graph.proofs.links.Graph.has_ring.Goals as goal

pub returns : goal.returns
returns c = λ R t g q sub e. c.has_new_ring.ensures R [] t g q sub (none-marked R g.few) (no-ring-none R) e

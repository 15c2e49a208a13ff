-- `links::Linking::link_row` meets its contract. Assumes nothing.
use Rattle.graph.proofs.links.Links.{growing-step}
use Rattle.graph.proofs.links.Linking.link_row.Goals as goal

pub invariant_of-self : goal.invariant_of-self
invariant_of-self c = record { growing = rw c.put_row.ensures (growing-step c.args.self.now.cells c.args.self.now.count c.args.key c.args.left c.requires.room c.requires.key c.requires.left c.args.self.now.growing) }

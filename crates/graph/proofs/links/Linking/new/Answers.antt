-- `links::Linking::new` meets its contract. Assumes nothing.
use Rattle.graph.proofs.links.Links.{growing-start}
use Rattle.graph.proofs.links.Linking.new.Goals as goal

pub invariant_of-result : goal.invariant_of-result
invariant_of-result c = record { growing = growing-start }

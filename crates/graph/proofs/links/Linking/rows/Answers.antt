-- `links::Linking::rows` meets its contract. Assumes nothing.
use Rattle.graph.proofs.links.Links.{growing-safe}
use Rattle.graph.proofs.links.Linking.rows.Goals as goal

pub from_cells-requires : goal.from_cells-requires
from_cells-requires c = growing-safe _ _ c.requires c.args.self.growing

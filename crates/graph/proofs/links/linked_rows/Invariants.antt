use Rattle.std.proofs.Common.{◌≡◌, map}
use Rattle.graph.proofs.links.Links.{Linking}
use Rattle.graph.proofs.links.linked_rows.Given as goal

abbrev pub invariant-loop-row : goal.invariant-loop-row
invariant-loop-row l = (l.linking.count ≡ l.row-index) × Linking (map (λ r. r.from) l.reversed) (map (λ r. r.to) l.reversed) l.linking.cells l.row-index

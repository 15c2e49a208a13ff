-- `rows_of` meets its contract. Assumes nothing.
use Rattle.std.proofs.Common.{rules}
use lib.ListN.{replicate}
use Rattle.record.proofs.Padded.{made-padded}
use Rattle.record_joining.proofs.rows_of.Goals as goal

pub returns : goal.returns
returns g c = made-padded g.row.PLACES (replicate g.row.CELLS 0) g.T.Element.row_of c.args.elements.now _ _ c.requires (λ i y q h. search rules) c.from_fn.ensures.items

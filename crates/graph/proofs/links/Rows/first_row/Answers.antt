-- `links::Rows::first_row` meets its contract. Assumes nothing.
use Rattle.std.proofs.Common.{arith}
use Rattle.graph.specs.links.Links.{head_at}
use Rattle.graph.proofs.links.Rows.first_row.Goals as goal

pub returns : goal.returns
unfolding head_at
returns c = let e = c.from.ensures in (rw (← c.self.view_is) e, omega (arith, e, c.self.invariant.head c.args.key c.requires))

-- `links::Rows::row` meets its contract. Assumes nothing.
use Rattle.std.proofs.Common.{arith, ◌-◌}
use Rattle.graph.specs.links.Links.{link_at, left_at}
use Rattle.graph.proofs.links.Rows.row.Goals as goal

pub returns-clause-left : goal.returns-clause-left
unfolding left_at
returns-clause-left c = let e = c.from.ensures in (rw (← c.self.view_is) e, omega (arith, e, c.self.invariant.left (c.args.j - 1) (omega arith)))

pub returns-clause-next : goal.returns-clause-next
unfolding link_at
returns-clause-next c = let e = c.from-2.ensures in (rw (← c.self.view_is) e, omega (arith, e, c.self.invariant.link (c.args.j - 1) (omega arith)))

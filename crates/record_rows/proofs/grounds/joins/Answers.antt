-- `grounds::joins` meets its contract. Assumes nothing.
use Rattle.record_rows.proofs.grounds.Walks.{joins-end, joins-fresh, joins-known}
use Rattle.record_rows.proofs.grounds.joins.Goals as goal

pub returns-in_default : goal.returns-in_default
returns-in_default g c = joins-end g.T.Element.KEY c.args.row.now c.args.full g.T.Element.row_of c.args.rest.now c.in_default.len_below c.as_new.ensures

pub returns-then-below : goal.returns-then-below
returns-then-below g c =
    joins-fresh g.T.Element.KEY c.args.row.now c.args.full g.T.Element.row_of c.args.rest.now c.in-len1-up.len_at_least c.x-item.is c.row-own.ensures (rw c.KEY.ensures at c.below.ensures) c.if-below.true c.as_new-then-below.ensures

pub returns : goal.returns
returns g c =
    joins-known g.T.Element.KEY c.args.row.now c.args.full g.T.Element.row_of c.args.rest.now c.in-len1-up.len_at_least c.x-item.is c.row-own.ensures (rw c.KEY.ensures at c.below.ensures) c.if-below.false c.eq.ensures c.as_known.ensures

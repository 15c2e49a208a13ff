-- `row::below` meets its contract. Assumes nothing.
use Rattle.record_rows.proofs.row.Compared.{cells-less}
use Rattle.record_rows.proofs.row.below.Goals as goal

pub returns : goal.returns
returns c = let s = c.args in cells-less s.a.now s.b.now s.k c.requires.0 c.requires.1 c.lt.ensures

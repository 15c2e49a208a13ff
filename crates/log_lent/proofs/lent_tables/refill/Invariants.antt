use Rattle.log_lent.proofs.lent_tables.Rows.{RowsJoined}
use Rattle.log_lent.proofs.lent_tables.refill.Given as goal

abbrev pub invariant-loop-element : goal.invariant-loop-element
invariant-loop-element g l = RowsJoined g.T.Element.row_of l.elements g.row.PLACES l.fn.table.rows l.fn.table.count l.element-index l.table.rows l.table.count

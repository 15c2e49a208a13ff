-- `Lending::record` meets its contract. Assumes nothing.
use Rattle.log_lent.proofs.Lending.record.Goals as goal

pub returns : goal.returns
returns c = λ L K h. (c.table.ensures L.edits K.edits h, c.table-2.ensures L.constraints K.constraints h)

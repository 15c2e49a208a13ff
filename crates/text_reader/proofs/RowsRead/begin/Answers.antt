-- `RowsRead::begin` meets its contract. Assumes nothing.
use Rattle.text_reader.proofs.Taking.{held-start}
use Rattle.text_reader.proofs.RowsRead.begin.Goals as goal

pub invariant_of-result : goal.invariant_of-result
invariant_of-result g c = held-start g.M.Manner.manner

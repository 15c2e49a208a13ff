-- `indexes::name_count` meets its contract. Assumes nothing.
use Rattle.std.proofs.Common.{arith, length, ap}
use Rattle.graph.proofs.indexes.Tables.{length-names, stored-edits}
use Rattle.graph.proofs.indexes.name_count.Goals as goal

pub returns-clause-count : goal.returns-clause-count
returns-clause-count c R e f = omega (arith, length-names R, ap length (stored-edits _ R _ e c.edit_slice.ensures))

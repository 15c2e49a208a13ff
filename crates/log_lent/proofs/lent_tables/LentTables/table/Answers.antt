-- `lent_tables::LentTables::table` meets its contract. Assumes nothing.
use mathlib.Core.Path.{refl}
use Rattle.log_lent.proofs.lent_tables.Rows.{kept-table}
use Rattle.log_lent.proofs.lent_tables.LentTables.table.Goals as goal

pub returns : goal.returns
returns g c = λ tables T h. c.as_slice.ensures _ (kept-table T refl h _ c.index-tables-k.is)

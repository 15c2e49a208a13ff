-- `row::name` meets its contract. Assumes nothing.
use mathlib.Core.Path.{sym, ◌∙◌}
use native.Mathlib.Omega.{arith}
use Rattle.record_rows.proofs.row.Cells.{name-small}
use Rattle.record_rows.proofs.row.name.Goals as goal

pub overflow_cast-result : goal.overflow_cast-result
overflow_cast-result c = omega (arith, name-small c.args.n (sym c.is_name.ensures ∙ c.if-is_name.true))

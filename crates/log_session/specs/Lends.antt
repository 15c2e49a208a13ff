-- The lines of a call log that lend something. Assumes nothing.
use Rattle.std.specs.Prelude.{[], ◌∷◌}
use Rattle.record_rows.specs.row.Row.{Row}
use Rattle.record_tables.specs.Table.{empty_tables}
use Rattle.log_commands.specs.declared.EditCells.{EditCells}
use Rattle.log_commands.specs.declared.ConstraintCells.{ConstraintCells}
use Rattle.log_commands.specs.declared.Lend.{Lend}
use Rattle.log_commands.specs.declared.Lend.TheVariants.{EditRow, ConstraintRow, NoRows, BenchRows, RollRow, NoRoll, RowName, NoRow}
use Rattle.log_lent.specs.Lent.{edit_places, constraint_places, rows_fault, with_edit, with_constraint, with_record, record_number, seat_number, with_seat, without_roll, name_number, with_name, without_row}
use Rattle.log_session.specs.Desk.{Desk, Effect, ledger_of, lends}

-- the rows of numbers that a line says
abbrev pub edit_cells_row : EditCells → Row
edit_cells_row c = c.name ∷ c.kind ∷ c.place ∷ c.field ∷ c.value ∷ []

abbrev pub constraint_cells_row : ConstraintCells → Row
constraint_cells_row c = c.left ∷ c.rule ∷ c.right ∷ []

-- THE EFFECT of a line that lends
unfoldable pub lend_effect : Desk → Lend → Effect
lend_effect D (EditRow k cells) = lends D (rows_fault edit_places D.lent.edits k) (with_edit D.lent k (edit_cells_row cells))
lend_effect D (ConstraintRow k cells) = lends D (rows_fault constraint_places D.lent.constraints k) (with_constraint D.lent k (constraint_cells_row cells))
lend_effect D (NoRows k) = lends D (record_number k) (with_record D.lent k empty_tables)
lend_effect D (BenchRows k) = lends D (record_number k) (with_record D.lent k (ledger_of D).multilog)
lend_effect D (RollRow bench weight) = lends D (seat_number bench weight) (with_seat D.lent bench weight)
lend_effect D NoRoll = lends D 0 (without_roll D.lent)
lend_effect D (RowName name) = lends D (name_number D.lent) (with_name D.lent name)
lend_effect D NoRow = lends D 0 (without_row D.lent)

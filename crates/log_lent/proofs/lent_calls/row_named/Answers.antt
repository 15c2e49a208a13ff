-- `lent_calls::row_named` meets its contract. Assumes nothing.
use mathlib.Core.Path.{◌∙◌}
use Rattle.record_tables.proofs.Tables.{held-edits}
use Rattle.log_lent.proofs.lent_calls.Named.{unknown-row, not-beyond, known-row}
use Rattle.log_lent.proofs.lent_calls.row_named.Goals as goal

pub returns-in_err-place : goal.returns-in_err-place
returns-in_err-place c = λ R q v. unknown-row R _ (c.place_of.ensures R q v) c.in_err-place.was c.from_residual.ensures

pub returns-in_err-edit : goal.returns-in_err-edit
returns-in_err-edit c = λ R q v. not-beyond R _ (c.place_of.ensures R q v) c.in_ok-place.was (c.edit_slice.ensures ∙ held-edits _ R q) c.in_err-edit.ensures.lookup.0

pub returns : goal.returns
returns c = λ R q v. known-row R _ (c.place_of.ensures R q v) c.in_ok-place.was (c.edit_slice.ensures ∙ held-edits _ R q) c.in_ok-edit.ensures.lookup.1 c.row.ensures

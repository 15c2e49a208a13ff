-- `refusal::constraint_add_fault` meets its contract. Assumes nothing.
use Rattle.record_tables.proofs.Tables.{add-constraint}
use Rattle.record_union.proofs.refusal.constraint_add_fault.Goals as goal

pub returns : goal.returns
returns c = λ R e k. add-constraint c.args.joined R e k c.args.row c.mark_edits-marks.result (rw c.edit_slice.ensures at c.mark_edits-marks.ensures) c.constraint_fault.ensures

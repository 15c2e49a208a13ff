-- `refusal::edit_add_fault` meets its contract. Assumes nothing.
use Rattle.record_tables.proofs.Tables.{add-edit}
use Rattle.record_union.proofs.refusal.edit_add_fault.Goals as goal

pub returns : goal.returns
returns c = λ R e k. add-edit c.args.joined R e k c.args.row c.edit_fault.ensures

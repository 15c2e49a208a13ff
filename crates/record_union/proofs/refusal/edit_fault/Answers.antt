-- `refusal::edit_fault` meets its contract. Assumes nothing.
use Rattle.record.specs.Stored.{record_of}
use Rattle.record_tables.proofs.Elements.{edit-rows-ascend}
use Rattle.record_union.proofs.refusal.edit_fault.Goals as goal

pub returns : goal.returns
returns c = λ o. rw c.edit_slice.ensures at c.table_fault.ensures (edit-rows-ascend (record_of c.args.joined.now).edits o.editorder)

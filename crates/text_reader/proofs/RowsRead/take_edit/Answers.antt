-- `RowsRead::take_edit` meets its contract. Assumes nothing.
use Rattle.std.proofs.Common.{take}
use Rattle.std.proofs.lemmas.Result.{err_from_is_err_and}
use Rattle.refusals.proofs.Numbers.{number-positive}
use Rattle.text_reader.proofs.Taking.{edit-not-taken, edit-held, edit-taken}
use Rattle.text_reader.proofs.RowsRead.take_edit.Goals as goal

pub returns-in_err-edit_fault : goal.returns-in_err-edit_fault
returns-in_err-edit_fault g c =
    let s = c.self.inside in
    let p = err_from_is_err_and c.from_residual.result c.from_residual.ensures.1 in
    rw (p.1, p.2, ← c.self.view_is)
    (edit-not-taken g.M.Manner.manner s.line_count (take s.edit_count s.edits) (take s.constraint_count s.constraints) c.args.row (c.in_err-edit_fault.ensures.number c.self.invariant.above) (number-positive c.in_err-edit_fault.field-0.0))

pub invariant_of-self : goal.invariant_of-self
invariant_of-self g c =
    let s = c.self.inside in
    edit-held g.M.Manner.manner s.edits s.constraints s.marks s.edit_count s.constraint_count s.line_count c.self.invariant c.args.row (c.in_ok-edit_fault.ensures.place c.self.invariant.above) (c.in_ok-edit_fault.ensures.number c.self.invariant.above)

pub returns : goal.returns
returns g c =
    let s = c.self.inside in
    rw (← c.self.view_is)
    (edit-taken g.M.Manner.manner s.edits s.constraints s.marks s.edit_count s.constraint_count s.line_count c.self.invariant c.args.row (c.in_ok-edit_fault.ensures.place c.self.invariant.above) (c.in_ok-edit_fault.ensures.number c.self.invariant.above))

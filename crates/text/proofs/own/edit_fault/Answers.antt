-- `own::edit_fault` meets its contract. Assumes nothing.
use Rattle.std.proofs.Common.{refl}
use Rattle.std.proofs.lemmas.Result.{err_from_is_err_and}
use Rattle.refusals.proofs.Numbers.{number-positive}
use Rattle.text.proofs.OwnPlaces.{edit-faulty, edit-late, edit-clean}
use Rattle.text.proofs.own.edit_fault.Goals as goal

pub returns-in_err-row_fault : goal.returns-in_err-row_fault
returns-in_err-row_fault c = λ a.
    let p = err_from_is_err_and c.from_residual.result c.from_residual.ensures.1 in
    rw (p.1, p.2) (edit-faulty c.args.above.edits.now c.args.above.constraints.now c.args.row (c.in_err-row_fault.ensures a) (number-positive c.in_err-row_fault.field-0.0))

pub returns-then-above-gt0 : goal.returns-then-above-gt0
returns-then-above-gt0 c = λ a. edit-late c.args.above.edits.now c.args.above.constraints.now c.args.row (c.in_ok-row_fault.ensures a) refl c.if-above-gt0.true

pub returns : goal.returns
returns c = λ a. edit-clean c.args.above.edits.now c.args.above.constraints.now c.args.row (c.in_ok-row_fault.ensures a) refl c.if-above-gt0.false

-- `refusal::fault` meets its contract. Assumes nothing.
use mathlib.Core.Path.{◌≡◌, refl, ◌∙◌}
use borrow.Author.Rules.{rules}
use Rattle.refusals.specs.Numbers.{number, number_of}
use Rattle.refusals.proofs.Numbers.{number-positive}
use Rattle.record_tables.proofs.Tables.{lent-first, lent-second}
use Rattle.record_union.proofs.refusal.fault.Goals as goal

pub returns-in_err-edit_fault : goal.returns-in_err-edit_fault
returns-in_err-edit_fault c = λ R e k.
    let s = c.args in
    let f : number_of c.from_residual.result ≡ number c.in_err-edit_fault.field-0.0 = search rules in
    f ∙ lent-first s.joined R e k s.lent.edits.now c.in_err-edit_fault.ensures s.lent.constraints.now (number-positive _)

pub returns : goal.returns
returns c = λ R e k.
    let s = c.args in
    lent-second s.joined R e k s.lent.edits.now c.in_ok-edit_fault.ensures s.lent.constraints.now refl c.mark_rows-marks.result c.mark_rows-marks.ensures c.constraint_fault.ensures

-- `Lending::lend_record` meets its contract. Assumes nothing.
use mathlib.Core.Path.{◌≡◌, ◌∙◌}
use native.Mathlib.Omega.{arith}
use borrow.Author.Rules.{rules}
use Rattle.refusals.specs.Numbers.{number, number_of}
use Rattle.record_tables.proofs.Tables.{held-edits, held-constraints}
use Rattle.log_lent.proofs.Settings.{no-such-record, record-lent}
use Rattle.log_lent.proofs.Lending.lend_record.Goals as goal

pub returns-in_err-replace : goal.returns-in_err-replace
returns-in_err-replace c =
    λ L R K q a b.
    let E = c.edit_slice.ensures ∙ held-edits _ R q in
    let S = c.in_err-replace.ensures L.edits K.edits (rw E (omega arith)) in
    let n : number_of c.from_residual.result ≡ number c.in_err-replace.field-0.0 = search rules in
    rw n (no-such-record K _ R (rw E at S.1) _ S.0)

pub returns : goal.returns
returns c =
    λ L R K q a b.
    let E = c.edit_slice.ensures ∙ held-edits _ R q in
    let C = c.constraint_slice.ensures ∙ held-constraints _ R q in
    let S = c.replace.ensures L.edits K.edits (rw E (omega arith)) in
    let T = c.replace-2.ensures L.constraints K.constraints (rw C (omega arith)) in
    (T.0, record-lent K _ R (rw E at S.1) (rw C at T.1))

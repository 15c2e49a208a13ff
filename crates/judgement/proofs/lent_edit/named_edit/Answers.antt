-- `lent_edit::named_edit` meets its contract. Assumes nothing.
use mathlib.Core.Path.{refl, ◌∙◌}
use Rattle.std.proofs.lemmas.Result.{err_from_is_err_and}
use Rattle.judgement.proofs.lent_edit.Asked.{missing-refused, no-name-refused, unwritten-refused, name-accepted, edit-known-in}
use Rattle.judgement.proofs.lent_edit.named_edit.Goals as goal

pub returns-in_err-name-clause-fault : goal.returns-in_err-name-clause-fault
returns-in_err-name-clause-fault c =
    λ R i k. let p = err_from_is_err_and c.from_residual.result c.from_residual.ensures.1 in rw (p.1, p.2) (no-name-refused R _ c.in_err-name.ensures)

pub returns-in_err-place-clause-fault : goal.returns-in_err-place-clause-fault
returns-in_err-place-clause-fault c =
    λ R i k.
    let p = err_from_is_err_and c.from_residual-in_err-place.result c.from_residual-in_err-place.ensures.1 in
    let q = missing-refused _ _ _ c.in_err-place.ensures.value in
    rw (p.1, p.2) (q.0 ∙ unwritten-refused R _ c.in_ok-name.ensures (c.place_of.ensures R i k) q.1)

pub returns-clause-fault : goal.returns-clause-fault
returns-clause-fault c = λ R i k. name-accepted R _ c.in_ok-name.ensures (c.place_of.ensures R i k) c.in_ok-place.ensures.ok_part

pub returns-clause-known : goal.returns-clause-known
returns-clause-known c = (refl, λ R i k. edit-known-in R _ c.in_ok-name.ensures (c.place_of.ensures R i k) c.in_ok-place.ensures.ok_part)

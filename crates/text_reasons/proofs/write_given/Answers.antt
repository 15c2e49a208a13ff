-- `write_given` meets its contract. Assumes nothing.
use mathlib.Core.Path.{◌∙◌}
use Rattle.std.proofs.lemmas.Result.{err_from_is_err_and}
use Rattle.judgement.proofs.lent_edit.Asked.{missing-refused}
use Rattle.text_reasons.proofs.Explained.{past-refused, none-refused, some-given}
use Rattle.text_reasons.proofs.write_given.Goals as goal

pub returns-then-out-at : goal.returns-then-out-at
returns-then-out-at c = let q = past-refused c.args.edit c.args.at c.args.out.now _ c.if-out-at.true in record { answer = (q.0, tt); bytes = q.1 }

pub returns-in_err-reason : goal.returns-in_err-reason
returns-in_err-reason c =
    let p = err_from_is_err_and c.from_residual.result c.from_residual.ensures.1 in
    let n = missing-refused _ _ _ c.in_err-reason.ensures.value in
    let q = none-refused c.args.edit c.args.at c.args.out.now n.1 c.if-out-at.false in
    record { answer = rw (p.1, p.2) (n.0 ∙ q.0, tt); bytes = q.1 }

pub returns : goal.returns
returns c =
    let w = c.write_reason.ensures in
    let q = some-given c.args.edit c.args.at c.args.out.now c.in_ok-reason.ensures.ok_part w.answer w.bytes in
    record { answer = q.0; bytes = q.1 }

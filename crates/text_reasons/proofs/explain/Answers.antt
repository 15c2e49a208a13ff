-- `explain` meets its contract. Assumes nothing.
use Rattle.std.proofs.lemmas.Result.{err_from_is_err_and}
use Rattle.text_reasons.proofs.Explained.{asked-refused, explained-given}
use Rattle.text_reasons.proofs.explain.Goals as goal

pub returns-in_err-given : goal.returns-in_err-given
returns-in_err-given c =
    let p = err_from_is_err_and c.from_residual.result c.from_residual.ensures.1 in
    let q = asked-refused _ _ c.args.edit c.args.at c.args.out.now c.in_err-given.field-0.0 c.in_err-given.ensures.fault in
    record { answer = rw (p.1, p.2) (q.0, tt); bytes = q.1 }

pub returns : goal.returns
returns c =
    let f = c.in_ok-given.ensures in
    let w = c.write_given.ensures in
    let q = explained-given _ _ c.args.edit c.args.at c.args.out.now f.fault f.reason _ w.answer w.bytes in
    record { answer = q.0; bytes = q.1 }

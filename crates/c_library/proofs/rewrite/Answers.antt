-- `rewrite` meets its contract. Assumes nothing.
use Rattle.std.proofs.lemmas.Result.{err_from_is_err_and}
use Rattle.c_library.proofs.Reading.{rewrite-refused, rewrite-accepted}
use Rattle.c_library.proofs.rewrite.Goals as goal

pub returns-in_err-content : goal.returns-in_err-content
returns-in_err-content c =
    let p = err_from_is_err_and c.from_residual.result c.from_residual.ensures.1 in
    rw (p.1, p.2) (rewrite-refused _ _ _ c.in_err-content.ensures.reads)

pub returns-in_err-size : goal.returns-in_err-size
returns-in_err-size c =
    let p = err_from_is_err_and c.from_residual-in_err-size.result c.from_residual-in_err-size.ensures.1 in
    rw (p.1, p.2) (rewrite-accepted _ _ _ c.in_ok-content.ensures.reads c.in_err-size.ensures.answer c.in_err-size.ensures.bytes)

pub returns : goal.returns
returns c = rewrite-accepted _ _ _ c.in_ok-content.ensures.reads c.in_ok-size.ensures.answer c.in_ok-size.ensures.bytes

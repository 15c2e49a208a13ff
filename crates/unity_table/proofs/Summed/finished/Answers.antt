-- `finished` meets its contract. Assumes nothing.
use mathlib.Core.Path.{refl, sym, ◌∙◌}
use Rattle.std.proofs.lemmas.Result.{err_from_is_err_and}
use Rattle.unity_table.proofs.Ends.{end-refused, end-accepted}
use Rattle.unity_table.proofs.Summed.finished.Goals as goal

pub returns-in_err-mean : goal.returns-in_err-mean
returns-in_err-mean c = λ l o.
    let p = err_from_is_err_and c.from_residual.result c.from_residual.ensures.1 in
    rw (p.1, p.2) (end-refused c.args.self l o _ refl c.mean.result (c.mean.ensures l o) (sym c.ok_or.ensures.value ∙ c.in_err-mean.was))

pub returns : goal.returns
returns c = λ l o. end-accepted c.args.self l o _ refl c.mean.result (c.mean.ensures l o) (sym c.ok_or.ensures.value ∙ c.in_ok-mean.was)

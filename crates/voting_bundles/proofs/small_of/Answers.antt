-- `small_of` meets its contract. Assumes nothing.
use Rattle.std.proofs.lemmas.Result.{err_from_is_err_and}
use Rattle.graph.proofs.indexes.Fit.{checked-fit}
use Rattle.voting_bundles.proofs.small_of.Goals as goal

pub returns-in_err-known : goal.returns-in_err-known
returns-in_err-known c = let p = err_from_is_err_and c.from_residual.result c.from_residual.ensures.1 in rw (p.1, p.2) (c.in_err-known.ensures.fault, tt)

pub returns : goal.returns
returns c =
    let f = c.in_ok-known.ensures in
    (f.fault, rw f.known.named at (c.bundle.ensures _ f.taken.is (checked-fit _ f.taken.checked) (rw f.known.named f.known.known)))

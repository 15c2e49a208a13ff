-- `reason_lent` meets its contract. Assumes nothing.
use Rattle.graph.proofs.indexes.Fit.{checked-fit}
use Rattle.reasons_lent.proofs.Known.{place-few}
use Rattle.reasons_lent.proofs.reason_lent.Goals as goal

pub reason_known-requires : goal.reason_known-requires
reason_known-requires c = let e = c.in_ok-known.ensures in place-few e.known (checked-fit _ e.taken.checked)

pub returns-clause-reason : goal.returns-clause-reason
returns-clause-reason c =
    let e = c.in_ok-known.ensures in c.reason_known.ensures _ _ e.taken.is (checked-fit _ e.taken.checked) e.taken.sound-now e.known

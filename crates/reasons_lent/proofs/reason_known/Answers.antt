-- `reason_known` meets its contract. Assumes nothing.
use Rattle.reasons_lent.proofs.Known.{place-inside, name-there}
use Rattle.reasons_lent.proofs.reason_known.Goals as goal

pub returns : goal.returns
returns c = λ R edit i f s k. rw (name-there k) at (c.reason_at.ensures R i f s (place-inside k))

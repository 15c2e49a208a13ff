-- `lent_calls::tally_lent` meets its contract. Assumes nothing.
use Rattle.log_lent.proofs.lent_calls.Given.{tallied-given}
use Rattle.log_lent.proofs.lent_calls.tally_lent.Goals as goal

pub returns : goal.returns
returns c = λ L K. tallied-given L _ (c.poll.ensures.proposals L K) (c.poll.ensures.roll L K) c.tally.ensures

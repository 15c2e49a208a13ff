-- `lent_calls::elect_lent` meets its contract. Assumes nothing.
use Rattle.log_lent.proofs.lent_calls.Given.{election-given}
use Rattle.log_lent.proofs.lent_calls.elect_lent.Goals as goal

pub returns : goal.returns
returns c = λ L K. election-given L _ (c.poll.ensures.proposals L K) (c.poll.ensures.roll L K) c.election.ensures

-- `lent_calls::adopt_lent` meets its contract. Assumes nothing.
use Rattle.log_lent.proofs.lent_calls.Given.{adoption-given}
use Rattle.log_lent.proofs.lent_calls.adopt_lent.Goals as goal

pub returns : goal.returns
returns c = λ L K. adoption-given L _ (c.poll.ensures.proposals L K) (c.poll.ensures.roll L K) _ _ c.adopt.ensures

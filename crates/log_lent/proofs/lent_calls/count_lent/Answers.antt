-- `lent_calls::count_lent` meets its contract. Assumes nothing.
use Rattle.voting_count.proofs.Won.{given-where-won}
use Rattle.log_lent.proofs.lent_calls.Given.{count-given}
use Rattle.log_lent.proofs.lent_calls.count_lent.Goals as goal

pub returns-clause-told : goal.returns-clause-told
returns-clause-told c = λ L K. count-given L _ (c.poll.ensures.proposals L K) (c.poll.ensures.roll L K) c.count.ensures.told

pub returns-clause-bundle : goal.returns-clause-bundle
returns-clause-bundle c = given-where-won _ _ _ _ c.count.ensures.told c.count.ensures.bundle

-- `silent` meets its contract. Assumes nothing.
use Rattle.voting_tally.specs.declared.Vote.TheVariants.{Silent}
use Rattle.voting_count.proofs.silent.Goals as goal

pub returns : goal.returns
returns c = λ i. record { vote = Silent; bundle = c.empty.ensures i }

-- `tally::no_votes` meets its contract. Assumes nothing.
use Rattle.voting_tally.proofs.Steps.{no-votes-is}
use Rattle.voting_tally.proofs.no_votes.Goals as goal

pub returns : goal.returns
returns c = no-votes-is c.empty.ensures c.answer.ensures

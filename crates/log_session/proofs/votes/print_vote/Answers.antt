-- `votes::print_vote` meets its contract. Assumes nothing.
use Rattle.log_session.specs.votes.Votes.{vote_effect}
use Rattle.log_session.proofs.Answered.{told-printed}
use Rattle.log_session.proofs.votes.print_vote.Goals as goal

pub returns-clause-told : goal.returns-clause-told
returns-clause-told c = λ D K m. let t = c.answer_vote-told.ensures.told D K m in told-printed c.answer_vote-told.result (vote_effect D c.args.vote) t.0 t.1 c.print_refused.ensures

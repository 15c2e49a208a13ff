-- `votes::print_proposal` meets its contract. Assumes nothing.
use Rattle.log_session.specs.votes.Votes.{proposal_effect}
use Rattle.log_session.proofs.Answered.{told-printed}
use Rattle.log_session.proofs.votes.print_proposal.Goals as goal

pub returns-clause-told : goal.returns-clause-told
returns-clause-told c =
    λ D K.
    let t = c.answer_proposal-told.ensures.told D K in
    (t.0, told-printed c.answer_proposal-told.result (proposal_effect D c.args.asked) t.1 t.2 c.print_refused.ensures)

-- `votes::print_tally` meets its contract. Assumes nothing.
use native.Mathlib.Omega.{arith}
use Rattle.log_session.proofs.votes.Tallying.{tally-printed-first, tally-printed-next, tally-printed-last}
use Rattle.log_session.proofs.votes.print_tally.Goals as goal

pub loop-answer-init : goal.loop-answer-init
loop-answer-init c = tally-printed-first c.args.answers.now c.args.printer.now

pub loop-answer-preserved : goal.loop-answer-preserved
loop-answer-preserved c = tally-printed-next c.args.answers.now _ c.loop-answer-test.true c.loop-answer.invariant c.print_election.ensures

pub returns : goal.returns
returns c = tally-printed-last c.args.answers.now c.loop-answer.answer-index (omega arith) c.loop-answer.invariant

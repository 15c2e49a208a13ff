use Rattle.log_session.proofs.votes.Tallying.{TallyPrinted}
use Rattle.log_session.proofs.votes.print_tally.Given as goal

abbrev pub invariant-loop-answer : goal.invariant-loop-answer
invariant-loop-answer l = TallyPrinted l.answers l.answer-index l.initial.printer l.printer

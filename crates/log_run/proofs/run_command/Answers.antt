-- `run_command` meets its contract. Assumes nothing.
use mathlib.Core.Path.{ap, ◌∙◌}
use borrow.Author.Rules.{rules}
use Rattle.std.specs.Prelude.{Ok}
use Rattle.ledger.specs.declared.Bench.{Bench}
use Rattle.log_commands.specs.declared.Command.TheVariants.{Lend, Propose, Call}
use Rattle.log_session.proofs.votes.Making.{proposal-held}
use Rattle.log_run.specs.Effects.{effect}
use Rattle.log_run.proofs.Performed.{performed-as, refusal-performed, vote-performed, ask-performed}
use Rattle.log_run.proofs.run_command.Goals as goal

pub returns-in-Ok-Lend-clause-run : goal.returns-in-Ok-Lend-clause-run
unfolding effect
returns-in-Ok-Lend-clause-run c = λ D H. performed-as D {other = Ok (Lend c.in-Ok-Lend.lend)} (search rules) (c.run_lend.ensures.told D H)

pub returns-in-Ok-Propose-clause-run : goal.returns-in-Ok-Propose-clause-run
unfolding effect
returns-in-Ok-Propose-clause-run c =
    λ D H.
    let asked = c.in-Ok-Propose.asked in
    let t = c.print_proposal.ensures.told D H.kept in
    performed-as D {other = Ok (Propose asked)} (search rules) (proposal-held D asked (c.print_proposal.ensures.bench ∙ H.benched) t.0, t.1)

pub returns-in-Ok-Call-clause-run : goal.returns-in-Ok-Call-clause-run
unfolding effect
returns-in-Ok-Call-clause-run c = λ D H. performed-as D {other = Ok (Call c.in-Ok-Call.call)} (search rules) (c.run_call.ensures.run D H)

pub returns-in-Ok-Vote-clause-run : goal.returns-in-Ok-Vote-clause-run
returns-in-Ok-Vote-clause-run c = λ D H. vote-performed D c.in-Ok-Vote.vote (search rules) H (c.print_vote.ensures.told D H.kept (ap (λ (b : Bench). b.multilog) H.benched))

pub returns-in-Ok-Ask-clause-run : goal.returns-in-Ok-Ask-clause-run
returns-in-Ok-Ask-clause-run c = λ D H. ask-performed D c.in-Ok-Ask.ask (search rules) H (c.print_ask.ensures.told D H.benched)

pub returns-in-Err-clause-run : goal.returns-in-Err-clause-run
returns-in-Err-clause-run c = λ D H. refusal-performed D c.in-Err.is H (rw c.number.ensures at c.print_refusal.ensures)

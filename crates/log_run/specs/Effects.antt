-- What each line of a call log comes to, by its command (log_commands/specs/Grammar.antt has the lines). Assumes nothing.
use Rattle.std.specs.Prelude.{[], Result, Ok, Err}
use Rattle.refusals.specs.declared.Refusal.{Refusal}
use Rattle.refusals.specs.Numbers.{number}
use Rattle.log_commands.specs.declared.Command.{Command}
use Rattle.log_commands.specs.declared.Command.TheVariants.{Lend, Propose, Call, Vote, Ask}
use Rattle.log_session.specs.Desk.{Desk, Effect, tells}
use Rattle.log_session.specs.Lends.{lend_effect}
use Rattle.log_session.specs.calls.Lines.{call_effect}
use Rattle.log_session.specs.votes.Votes.{proposal_effect, vote_effect}
use Rattle.log_session.specs.questions.Questions.{ask_effect}

-- THE EFFECT of a line. One that is not in form, or has too large a number, is refused.
unfoldable pub effect : Desk → Result Command Refusal → Effect
effect D (Err refusal) = tells D (number refusal) []
effect D (Ok (Lend lend)) = lend_effect D lend
effect D (Ok (Propose asked)) = proposal_effect D asked
effect D (Ok (Call call)) = call_effect D call
effect D (Ok (Vote vote)) = vote_effect D vote
effect D (Ok (Ask ask)) = ask_effect D ask

-- `votes::print_election` meets its contract. Assumes nothing.
use Rattle.lists.proofs.Tests.{byte-bit}
use Rattle.text_forms.specs.Spelling.{bytes}
use Rattle.log_session.specs.votes.Votes.{election_line}
use Rattle.log_session.proofs.votes.print_election.Goals as goal

pub returns : goal.returns
unfolding election_line bytes
returns c = rw (c.from.ensures, byte-bit c.args.election.won, c.from-2.ensures, c.from-3.ensures, c.from-4.ensures) at c.print.ensures

-- `votes::print_test` meets its contract. Assumes nothing.
use Rattle.lists.proofs.Tests.{byte-bit}
use Rattle.text_forms.specs.Spelling.{bytes}
use Rattle.log_session.specs.votes.Votes.{test_line}
use Rattle.log_session.proofs.votes.print_test.Goals as goal

pub returns : goal.returns
unfolding test_line bytes
returns c = rw (c.from.ensures, byte-bit c.args.sound) at c.print.ensures

-- `calls::print_adoption` meets its contract. Assumes nothing.
use Rattle.lists.proofs.Tests.{byte-bit}
use Rattle.text_forms.specs.Spelling.{bytes}
use Rattle.log_session.specs.calls.Lines.{adoption_text}
use Rattle.log_session.proofs.calls.print_adoption.Goals as goal

pub returns : goal.returns
unfolding adoption_text bytes
returns c = rw (c.from.ensures, byte-bit c.args.accepted.election.won, c.from-2.ensures, c.from-3.ensures, c.from-4.ensures) at c.print.ensures

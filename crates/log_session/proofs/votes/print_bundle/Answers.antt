-- `votes::print_bundle` meets its contract. Assumes nothing.
use Rattle.lists.proofs.Tests.{byte-bit}
use Rattle.text_forms.specs.Spelling.{bytes}
use Rattle.log_forms.proofs.Printing.{printed-both}
use Rattle.log_session.specs.votes.Votes.{bundle_text}
use Rattle.log_session.proofs.votes.print_bundle.Goals as goal

pub returns : goal.returns
unfolding bundle_text bytes
returns c = printed-both (rw (c.from.ensures, byte-bit c.args.small.now.eligible) at c.print.ensures) c.print_text.ensures

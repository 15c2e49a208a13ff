-- `calls::print_pages` meets its contract. Assumes nothing.
use Rattle.text_forms.specs.Spelling.{bytes}
use Rattle.log_session.specs.calls.Lines.{pages_text}
use Rattle.log_session.proofs.calls.print_pages.Goals as goal

pub returns : goal.returns
unfolding pages_text bytes
returns c = c.print.ensures

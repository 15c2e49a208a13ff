-- `votes::print_rule` meets its contract. Assumes nothing.
use Rattle.text_lines.specs.Line.{constraint_line_in}
use Rattle.log_session.proofs.votes.print_rule.Goals as goal

pub returns : goal.returns
unfolding constraint_line_in
returns c = rw (c.constraint_form.ensures, c.from.ensures, c.from-2.ensures, c.from-3.ensures) at c.print.ensures

-- `votes::print_rules` meets its contract. Assumes nothing.
use Rattle.text_forms.specs.Spelling.{bytes}
use Rattle.log_forms.proofs.Printing.{printed-both}
use Rattle.log_session.specs.votes.Votes.{suggestion_text}
use Rattle.log_session.proofs.votes.print_rules.Goals as goal

pub returns-in-Nothing : goal.returns-in-Nothing
unfolding suggestion_text bytes
returns-in-Nothing c = rw c.in-Nothing.is c.print.ensures

pub returns-in-One : goal.returns-in-One
unfolding suggestion_text bytes
returns-in-One c = rw c.in-One.is (printed-both c.print-in-One.ensures c.print_rule.ensures)

pub returns-in-Two : goal.returns-in-Two
unfolding suggestion_text bytes
returns-in-Two c = rw c.in-Two.is (printed-both c.print-in-Two.ensures (printed-both c.print_rule-in-Two.ensures c.print_rule-in-Two-2.ensures))

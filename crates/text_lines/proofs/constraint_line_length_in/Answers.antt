-- `constraint_line_length_in` meets its contract. Assumes nothing.
use Rattle.text_lines.proofs.Puts.{rule-length}
use Rattle.text_lines.proofs.constraint_line_length_in.Goals as goal

pub returns : goal.returns
returns g c =
    rw (c.name_length-left.ensures.0, c.rule_part.ensures, c.name_length-right.ensures.0, c.from.ensures, c.from-2.ensures)
    (rule-length g.N.Notated.notation c.args.row)

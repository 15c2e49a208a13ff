use Rattle.text_lines.specs.Lines.{lines}
use Rattle.text.specs.Text.{read_from}
use Rattle.text_reader.proofs.Feeding.{Upto}
use Rattle.text_reader.proofs.RowsRead.take_lines.Given as goal

abbrev pub invariant-loop-line : goal.invariant-loop-line
invariant-loop-line g l =
    (goal.iterator-loop-line g).can_next l.line-iterator × (goal.iterator-loop-line g).is_finite l.line-iterator
    × Upto g.M.Manner.manner (read_from g.M.Manner.manner l.initial.self (lines l.text)) l.self l.line-iterator.rest.now

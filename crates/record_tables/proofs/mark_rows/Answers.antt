-- `mark_rows` meets its contract. Assumes nothing.
use borrow.Author.Rules.{rules}
use Rattle.record_rows.specs.row.Row.{cell, edit_in_range}
use Rattle.record_tables.proofs.Marks.{row_small}
use Rattle.record_tables.proofs.mark_rows.Goals as goal

pub returns : goal.returns
returns c = c.marks_of.ensures (λ row. cell row 0) edit_in_range (λ x r h. search rules) row_small

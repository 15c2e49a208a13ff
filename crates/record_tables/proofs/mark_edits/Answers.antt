-- `mark_edits` meets its contract. Assumes nothing.
use borrow.Author.Rules.{rules}
use Rattle.record.specs.Record.{name_of}
use Rattle.record_rows.specs.row.Row.{edit_row, edit_in_range}
use Rattle.record_tables.proofs.Marks.{edit-small}
use Rattle.record_tables.proofs.mark_edits.Goals as goal

pub returns : goal.returns
returns c = c.marks_of.ensures name_of (λ e. edit_in_range (edit_row e)) (λ x r h. search rules) edit-small

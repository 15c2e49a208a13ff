-- `merge_record` meets its contract. Assumes nothing.
use Rattle.record_rows.specs.row.Row.{edit_row, constraint_row}
use Rattle.record_joining.proofs.Answers.{joined-record-is, rows_back}
use Rattle.record_joining.proofs.merge_record.Goals as goal

pub returns : goal.returns
returns c = λ R S e k f.
    joined-record-is R S k c.args.joining f _ _ (rows_back edit_row _ _ c.edit_slice-own.ensures c.rows_of-edits.ensures) (rows_back constraint_row _ _ c.constraint_slice-rules.ensures c.rows_of-constraints.ensures) _ (c.merge.ensures R e k)

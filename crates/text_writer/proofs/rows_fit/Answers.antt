-- `rows_fit` meets its contract. Assumes nothing.
use Rattle.std.proofs.Common.{◌∙◌, length, length-append}
use Rattle.text_writer.proofs.Texts.{edits-text, constraints-text, text-is, first-short, both-left}
use Rattle.text_writer.proofs.rows_fit.Goals as goal

pub returns-in_err-left : goal.returns-in_err-left
returns-in_err-left g c =
    let M = g.M.Manner.manner in
    let r = c.args.content.now in
    c.from_residual.ensures ∙ rw (text-is M r, length-append) (first-short c.args.room (length (edits-text M r)) (length (constraints-text M r)) (rw c.edit_slice.ensures at c.in_err-left.ensures))

pub returns : goal.returns
returns g c =
    let M = g.M.Manner.manner in
    let r = c.args.content.now in
    rw (text-is M r, length-append)
    (both-left c.args.room (length (edits-text M r)) (length (constraints-text M r)) (rw c.edit_slice.ensures at c.in_ok-left.ensures) (rw c.constraint_slice.ensures at c.lines_fit-2.ensures))

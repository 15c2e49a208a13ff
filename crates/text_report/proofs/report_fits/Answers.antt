-- `report_fits` meets its contract. Assumes nothing.
use Rattle.std.proofs.Common.{◌∙◌, map, length, length-append}
use Rattle.text_forms.specs.Spelling.{bytes}
use Rattle.text_forms.specs.Form.{fill}
use Rattle.text.specs.Text.{joined_lines}
use Rattle.text_writer.proofs.Texts.{both-short, both-fit}
use Rattle.text_report.specs.Report.{counts_form}
use Rattle.text_report.specs.Rows.{line_text}
use Rattle.text_report.proofs.report_fits.Goals as goal

pub returns-in-None : goal.returns-in-None
unfolding counts_form bytes
returns-in-None c =
    let s = c.args in
    rw length-append (both-short s.room (length (fill counts_form s.counts.now)) (length (joined_lines (map line_text s.lines.now))) c.in-None.ensures)

pub returns-in-Some : goal.returns-in-Some
unfolding counts_form bytes
returns-in-Some c =
    let s = c.args in
    rw length-append (c.is_some.ensures ∙ rw c.lines_fit.ensures (both-fit s.room (length (fill counts_form s.counts.now)) (length (joined_lines (map line_text s.lines.now))) c.in-Some.ensures))

-- `place_report` meets its contract. Assumes nothing.
use Rattle.std.proofs.Common.{map, List, ℕ, ◌++◌, arith}
use Rattle.text_forms.specs.Form.{fill}
use Rattle.text.specs.Text.{joined_lines}
use Rattle.text_writer.proofs.Placing.{not-placed, no_room, has_room, written-there}
use Rattle.text_report.specs.Report.{counts_form}
use Rattle.text_report.specs.declared.ReportLine.{ReportLine}
use Rattle.text_report.specs.Rows.{line_text}
use Rattle.text_report.proofs.place_report.Goals.{then-out-at-via-then-out-at, then-out-at-via-else-out-at+then-not-report_fits}
use Rattle.text_report.proofs.place_report.Goals as goal

abbrev report : List ℕ → List ReportLine → List ℕ
report counts lines = fill counts_form counts ++ joined_lines (map line_text lines)

pub returns-then-out-at : goal.returns-then-out-at
returns-then-out-at c =
    let s = c.args in
    let text = report s.counts.now s.lines.now in
    elim c.then-out-at.branch [
      | then-out-at-via-then-out-at w ↦ let p = not-placed text s.out.now s.at (omega (arith, w.if-out-at.true)) in record { answer = p.0; bytes = p.1 }
      | then-out-at-via-else-out-at+then-not-report_fits w ↦ let p = no_room text s.out.now s.at w.if-out-at.false w.report_fits.ensures w.if-not-report_fits.true in record { answer = p.0; bytes = p.1 }
    ]

pub write_report-requires : goal.write_report-requires
write_report-requires c = let s = c.args in has_room (report s.counts.now s.lines.now) s.out.now s.at c.if-out-at.false c.report_fits.ensures c.if-not-report_fits.false

pub returns : goal.returns
returns c =
    let s = c.args in
    let p = written-there (report s.counts.now s.lines.now) s.out.now s.at c.if-out-at.false c.report_fits.ensures c.if-not-report_fits.false c.write_report.ensures in
    record { answer = p.0; bytes = p.1 }

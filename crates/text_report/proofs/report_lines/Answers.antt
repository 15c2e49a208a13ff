-- `report_lines` meets its contract. Assumes nothing.
use mathlib.Core.Path.{refl, ◌∙◌}
use native.Mathlib.Omega.{arith}
use lib.ListN.{length-set, length-replicate}
use Rattle.text_report.specs.declared.ReportLine.{ReportLine}
use Rattle.text_report.specs.Rows.{no_line}
use Rattle.text_report.proofs.Numbers.{lines-more, lines-whole}
use Rattle.text_report.proofs.report_lines.Goals as goal

pub loop-i-init : goal.loop-i-init
loop-i-init c = (omega arith, length-replicate {A = ReportLine} 127 no_line, refl)

pub loop-i-preserved : goal.loop-i-preserved
loop-i-preserved c =
    let l = c.loop-i in (
      omega (arith, c.loop-i-test.true),
      length-set l.lines l.i c.line_at.result ∙ l.invariant.1,
      lines-more c.args.judged.now c.args.edits.now l.i l.lines c.loop-i-test.true (omega (arith, c.requires, c.loop-i-test.true, l.invariant.1)) c.line_at.ensures l.invariant.2,
    )

pub returns : goal.returns
returns c =
    let l = c.loop-i in
    (lines-whole c.args.judged.now c.args.edits.now l.i l.lines (omega (arith, l.invariant.0, c.loop-i-test.false)) l.invariant.2, l.invariant.1)

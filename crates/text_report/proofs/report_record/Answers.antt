-- `report_record` meets its contract. Assumes nothing.
use Rattle.text_report.proofs.Reports.{report-placed}
use Rattle.text_report.proofs.report_record.Goals as goal

pub returns : goal.returns
returns c = λ R e k.
    report-placed c.args.content R e k c.judge-judged.ensures c.edit_slice-edits.ensures c.constraint_slice-m.ensures c.report_lines-lines.result c.report_lines-lines.ensures.0 c.args.out.now c.args.at c.place_report.ensures.answer c.place_report.ensures.bytes

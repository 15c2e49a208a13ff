-- `print_text` meets its contract. Assumes nothing.
use Rattle.text_report.proofs.Reports.{printed-refused, printed-accepted}
use Rattle.text_report.proofs.print_text.Goals as goal

pub returns-in-Ok : goal.returns-in-Ok
returns-in-Ok c = let q = printed-accepted c.args.text.now c.args.out.now c.in-Ok.content c.in-Ok.ensures.reads c.report_record.ensures in record { answer = q.0; bytes = q.1 }

pub returns-in-Err : goal.returns-in-Err
returns-in-Err c =
    let q = printed-refused c.args.text.now c.args.out.now c.in-Err.fault c.in-Err.ensures.reads (rw c.number.ensures at c.refusal_line.ensures.answer) (rw c.number.ensures at c.refusal_line.ensures.bytes) in
    record { answer = q.0; bytes = q.1 }

-- `report_text` meets its contract. Assumes nothing.
use Rattle.std.proofs.lemmas.Result.{err_from_is_err_and}
use Rattle.text_report.proofs.Reports.{reported-refused, reported-accepted}
use Rattle.text_report.proofs.report_text.Goals as goal

pub returns-in_err-content : goal.returns-in_err-content
returns-in_err-content c =
    let p = err_from_is_err_and c.from_residual.result c.from_residual.ensures.1 in
    let q = reported-refused c.args.text.now c.args.out.now _ c.in_err-content.ensures.reads in
    record { answer = rw (p.1, p.2) q.0; bytes = q.1 }

pub returns-in_err-size : goal.returns-in_err-size
returns-in_err-size c =
    let p = err_from_is_err_and c.from_residual-in_err-size.result c.from_residual-in_err-size.ensures.1 in
    let q = reported-accepted c.args.text.now c.args.out.now c.in_ok-content.content c.in_ok-content.ensures.reads c.in_err-size.ensures in
    record { answer = rw (p.1, p.2) q.0; bytes = q.1 }

pub returns : goal.returns
returns c = let q = reported-accepted c.args.text.now c.args.out.now c.in_ok-content.content c.in_ok-content.ensures.reads c.in_ok-size.ensures in record { answer = q.0; bytes = q.1 }

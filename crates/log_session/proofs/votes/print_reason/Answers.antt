-- `votes::print_reason` meets its contract. Assumes nothing.
use Rattle.text_reasons.specs.ReasonLine.{reason_line}
use Rattle.reasons_lent.specs.Asked.{reason_told}
use Rattle.log_forms.proofs.Printing.{text-printed}
use Rattle.log_session.proofs.votes.print_reason.Goals as goal

pub returns : goal.returns
returns c =
    let s = c.args in
    let w = c.write_reason-end.ensures in
    rw c.place_at.ensures (text-printed (reason_line s.edit (reason_told s.reason.now)) s.printer.now w.answer w.bytes)

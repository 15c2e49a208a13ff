-- `winners::print_won` meets its contract. Assumes nothing.
use Rattle.text_forms.specs.Spelling.{bytes}
use Rattle.lists.proofs.Tests.{byte-bit}
use Rattle.log_forms.proofs.Printing.{same_printed, same_both}
use Rattle.log_session.proofs.winners.Won.{won-printed}
use Rattle.log_session.proofs.winners.print_won.Goals as goal

pub returns-clause-told : goal.returns-clause-told
unfolding bytes
returns-clause-told c =
    let s = c.args in
    let v = c.verdict_of-said in
    λ R q f i.
    won-printed s.edit R s.bundle.now q (v.ensures R q f i)
    (rw (c.from.ensures, c.from-2.ensures, c.from-3.ensures, byte-bit v.result.must, byte-bit v.result.never) at c.print.ensures) c.print_text.ensures

pub returns-clause-same : goal.returns-clause-same
returns-clause-same c = same_both (same_printed c.print.ensures) (same_printed c.print_text.ensures)

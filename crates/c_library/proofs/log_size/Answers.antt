-- `log_size` meets its contract. Assumes nothing.
use mathlib.Core.Path.{◌∙◌}
use borrow.Author.Rules.{rules}
use Rattle.c_library.proofs.Parts.{two-logs}
use Rattle.c_library.proofs.log_size.Goals as goal

pub returns : goal.returns
returns c = λ l.
    let n = c.new-printer.ensures in
    let q = two-logs _ _ _ l c.empty-session.ensures n.content n.start n.line c.run_log.ensures.run c.run_log-2.ensures.run in
    let same = q.2 in
    (search rules ∙ q.0, c.run_log-2.ensures.place ∙ q.1)

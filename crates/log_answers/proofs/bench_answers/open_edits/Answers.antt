-- `bench_answers::open_edits` meets its contract. Assumes nothing.
use mathlib.Core.Path.{◌≡◌}
use borrow.Author.Rules.{rules}
use lib.ListN.{length}
use Rattle.lists.proofs.Lists.{length-mapped}
use Rattle.lists.proofs.Arrays.{take-least}
use Rattle.log_answers.proofs.bench_answers.open_edits.Goals as goal

pub returns-clause-edits : goal.returns-clause-edits
returns-clause-edits c =
    let s = c.args in
    let l : length s.edits.now ≡ 127 = search (rules, length-mapped) in
    rw c.min.ensures (take-least s.opened 127 s.edits.now l)

-- `bench_answers::print_hidden` meets its contract. Assumes nothing.
use mathlib.Core.Path.{◌≡◌}
use borrow.Author.Rules.{rules}
use lib.ListN.{length, take, drop}
use Rattle.lists.specs.Lists.{filter}
use Rattle.text_forms.specs.Spelling.{bytes}
use Rattle.log_answers.specs.bench_answers.Asks.{hides}
use Rattle.log_answers.proofs.bench_answers.Questions.{hidden-printed}
use Rattle.log_answers.proofs.bench_answers.print_hidden.Goals as goal

pub returns : goal.returns
unfolding bytes
returns c =
    let s = c.args in
    let k : c.count_hidden-count.result ≡ length (filter hides (take (length c.edit_slice-edits.result.now) (drop 1 s.bench.now.hidden))) = search rules in
    rw (← c.edit_slice-edits.ensures) (hidden-printed c.edit_slice-edits.result.now s.bench.now.hidden k c.print.ensures c.print_hidden_edits.ensures)

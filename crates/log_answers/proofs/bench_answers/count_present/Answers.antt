-- `bench_answers::count_present` meets its contract. Assumes nothing.
use mathlib.Core.Path.{◌≡◌, sym, ◌∙◌}
use borrow.Author.Rules.{rules}
use Rattle.std.specs.List.{count_by}
use Rattle.log_answers.specs.bench_answers.Asks.{is_present}
use Rattle.log_answers.proofs.bench_answers.Counting.{filter-counted}
use Rattle.log_answers.proofs.bench_answers.count_present.Goals as goal

pub returns : goal.returns
returns c = let e : c.count.result ≡ count_by is_present c.args.entries.now = search rules in e ∙ sym (filter-counted is_present c.args.entries.now)

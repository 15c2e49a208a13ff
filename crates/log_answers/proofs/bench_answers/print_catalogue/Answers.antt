-- `bench_answers::print_catalogue` meets its contract. Assumes nothing.
use Rattle.text_forms.specs.Spelling.{bytes}
use Rattle.log_answers.proofs.bench_answers.Questions.{catalogue-printed}
use Rattle.log_answers.proofs.bench_answers.print_catalogue.Goals as goal

pub returns : goal.returns
unfolding bytes
returns c = let s = c.args in catalogue-printed s.bench.now.view.catalogue.entries c.count_present.ensures c.print.ensures c.print_entries.ensures

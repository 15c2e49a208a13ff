-- `bench_answers::print_page` meets its contract. Assumes nothing.
use Rattle.text_forms.specs.Spelling.{bytes}
use Rattle.log_answers.proofs.bench_answers.print_page.Goals as goal

pub returns : goal.returns
unfolding bytes
returns c = c.print.ensures

-- `bench_answers::print_journal` meets its contract. Assumes nothing.
use Rattle.text_forms.specs.Spelling.{bytes}
use Rattle.log_answers.proofs.bench_answers.Questions.{journal-printed}
use Rattle.log_answers.proofs.bench_answers.print_journal.Goals as goal

pub returns : goal.returns
unfolding bytes
returns c =
    let e = c.open_edits-edits in
    rw (← e.ensures.edits) (journal-printed e.result.now c.args.bench.now.view.journal.rows c.print.ensures c.print_rows.ensures)

-- `bench_answers::print_schedule` meets its contract. Assumes nothing.
use Rattle.text_forms.specs.Spelling.{bytes}
use Rattle.log_answers.proofs.bench_answers.Questions.{schedule-printed}
use Rattle.log_answers.proofs.bench_answers.print_schedule.Goals as goal

pub returns : goal.returns
unfolding bytes
returns c =
    let s = c.args in
    rw (← c.edit_slice-edits.ensures) (schedule-printed c.edit_slice-edits.result.now c.print.ensures c.print_pages.ensures)

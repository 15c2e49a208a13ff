-- `bench_answers::print_entry` meets its contract. Assumes nothing.
use Rattle.text_forms.specs.Spelling.{bytes}
use Rattle.log_answers.proofs.bench_answers.Questions.{entry-printed, entry_absent}
use Rattle.log_answers.proofs.bench_answers.print_entry.Goals as goal

pub returns-then-entry : goal.returns-then-entry
unfolding bytes
returns-then-entry c = let s = c.args in entry-printed s.chip s.entry.now c.if-entry.true c.print.ensures c.print_cells.ensures

pub returns-else-entry : goal.returns-else-entry
returns-else-entry c = let s = c.args in entry_absent s.printer.now s.chip s.entry.now c.if-entry.false

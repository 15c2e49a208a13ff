-- `bench_answers::print_row` meets its contract. Assumes nothing.
use mathlib.Core.Path.{◌∙◌}
use Rattle.text_forms.specs.Spelling.{bytes}
use Rattle.log_answers.proofs.bench_answers.Questions.{row-printed}
use Rattle.lists.proofs.Tests.{byte-bit}
use Rattle.log_answers.proofs.bench_answers.print_row.Goals as goal

pub returns : goal.returns
unfolding bytes
returns c = let s = c.args in row-printed s.page s.edit.now s.row.now c.place-chip.ensures (c.from.ensures ∙ byte-bit s.row.now.present) c.print.ensures c.print_cells.ensures

-- `bench_answers::print_if_hidden` meets its contract. Assumes nothing.
use mathlib.Core.List.{[], ◌∷◌}
use Rattle.text_forms.specs.Spelling.{bytes}
use Rattle.log_answers.proofs.bench_answers.Questions.{printed-not, printed-so, not_hidden, is_hidden}
use Rattle.log_answers.specs.Answers.{answer_line}
use Rattle.log_answers.specs.bench_answers.Asks.{hides}
use Rattle.log_answers.proofs.bench_answers.print_if_hidden.Goals as goal

pub returns-then-mark-eq-HIDES : goal.returns-then-mark-eq-HIDES
unfolding bytes
returns-then-mark-eq-HIDES c =
    let s = c.args in
    printed-so (hides s.mark) (answer_line "edit=@\n" (s.name ∷ [])) (is_hidden s.mark c.if-mark-eq-HIDES.true) (rw c.from.ensures at c.print.ensures)

pub returns-else-mark-eq-HIDES : goal.returns-else-mark-eq-HIDES
returns-else-mark-eq-HIDES c = let s = c.args in printed-not (hides s.mark) (answer_line "edit=@\n" (s.name ∷ [])) (not_hidden s.mark c.if-mark-eq-HIDES.false)

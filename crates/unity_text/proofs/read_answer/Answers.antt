-- `read_answer` meets its contract. Assumes nothing.
use Rattle.text_forms.specs.Spelling.{bytes}
use Rattle.unity_text.specs.Text.{weights_form}
use Rattle.unity_text.proofs.Reading.{said-long, said-unformed, said-answer}
use Rattle.unity_text.proofs.read_answer.Goals as goal

pub returns-then-line-gt-LINE_LIMIT : goal.returns-then-line-gt-LINE_LIMIT
returns-then-line-gt-LINE_LIMIT c = said-long c.args.line.now c.if-line-gt-LINE_LIMIT.true

pub returns-in_err-numbers : goal.returns-in_err-numbers
unfolding weights_form bytes
returns-in_err-numbers c = rw c.from_residual.ensures (said-unformed c.args.line.now c.if-line-gt-LINE_LIMIT.false c.in_err-numbers.ensures)

pub returns : goal.returns
unfolding weights_form bytes
returns c = said-answer c.args.line.now c.if-line-gt-LINE_LIMIT.false c.in_ok-numbers.ensures

-- `run_page` meets its contract. Assumes nothing.
use mathlib.Core.Path.{ap, ◌∙◌}
use borrow.Author.Rules.{rules}
use Rattle.std.specs.Prelude.{Option, Some}
use Rattle.log_commands.specs.declared.Call.TheVariants.{Turn as TurnPages}
use Rattle.log_run.specs.declared.PageLine.{PageLine}
use Rattle.log_run.proofs.Paging.{turned-told, page-performed, turn-performed}
use Rattle.log_run.proofs.run_page.Goals as goal

pub returns-in-Turn-clause-run : goal.returns-in-Turn-clause-run
returns-in-Turn-clause-run c = λ D read session H q p.
    let t = c.turn.ensures in
    let a = turned-told c.turn.result c.map-answer.result _ (λ u r e. search rules) c.map-answer.ensures.cases in
    rw t.after
    (turn-performed D read H q _ (p ∙ ap {B = Option PageLine} Some c.in-Turn.is) (search rules) (ap TurnPages (search rules)) (rw (a, t.number, t.after) at c.print_outcome.ensures))

pub returns-in-Question-clause-run : goal.returns-in-Question-clause-run
returns-in-Question-clause-run c = λ D read session H t p. page-performed D read H t (p ∙ ap {B = Option PageLine} Some c.in-Question.is) c.print_page.ensures

-- `schedules::is_barred` meets its contract. Assumes nothing.
use Rattle.std.proofs.Common.{sym, ◌∙◌}
use borrow.Author.Tests.{eqb-true, eqb-false}
use Rattle.judgement_marks.proofs.schedules.Admitting.{bar-unmarked, bar-shown, bar-must}
use Rattle.judgement_marks.proofs.schedules.is_barred.Goals.{then-marks-x-eq1, else-marks-x-eq1}
use Rattle.judgement_marks.proofs.schedules.is_barred.Goals as goal

pub returns-then-hidden-x-eq1 : goal.returns-then-hidden-x-eq1
returns-then-hidden-x-eq1 c R h t k e m u =
    elim c.if-marks-x-eq1.branch [
      | then-marks-x-eq1 w ↦
          bar-must R h t c.args.marks.now c.args.hidden.now c.args.mustmarks.now c.args.x k e m u w.if-marks-x-eq1.true (eqb-true _ 1 (sym w.value-is ∙ c.if-hidden-x-eq1.true))
      | else-marks-x-eq1 w ↦ absurd (w.if-marks-x-eq1.false (eqb-true _ 1 (sym w.value-is ∙ c.if-hidden-x-eq1.true)))
    ]

pub returns-else-hidden-x-eq1 : goal.returns-else-hidden-x-eq1
returns-else-hidden-x-eq1 c R h t k e m u =
    rw c.if-hidden-x-eq1.false (elim c.if-marks-x-eq1.branch [
      | then-marks-x-eq1 w ↦ bar-shown R h t c.args.marks.now c.args.hidden.now c.args.mustmarks.now c.args.x k e m u (eqb-false _ 1 (sym w.value-is ∙ c.if-hidden-x-eq1.false))
      | else-marks-x-eq1 w ↦ bar-unmarked R h t c.args.marks.now c.args.hidden.now c.args.mustmarks.now c.args.x k e m u w.if-marks-x-eq1.false
    ])

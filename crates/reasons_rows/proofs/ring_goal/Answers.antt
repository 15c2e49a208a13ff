-- `ring_goal` meets its contract. Assumes nothing.
use Rattle.record.specs.Record.{notafter}
use Rattle.reasons_rows.proofs.Aiming.{outside-left, outside-right, linked-inside}
use Rattle.judgement_marks.proofs.Standing.{marked-on, marked-off}
use Rattle.reasons_rows.proofs.ring_goal.Goals as goal

pub returns-then-marks-i-ne1 : goal.returns-then-marks-i-ne1
returns-then-marks-i-ne1 c = λ R t g li lr m. outside-left R t _ _ (marked-off R _ _ c.args.i m li c.if-marks-i-ne1.true)

pub returns-then-marks-r-ne1 : goal.returns-then-marks-r-ne1
returns-then-marks-r-ne1 c = λ R t g li lr m. outside-right R t _ _ (marked-off R _ _ c.args.r m lr c.if-marks-r-ne1.true)

pub returns-then-leads_to : goal.returns-then-leads_to
returns-then-leads_to c =
    λ R t g li lr m. linked-inside R t _ _ (marked-on R _ _ c.args.i m c.if-marks-i-ne1.false) (marked-on R _ _ c.args.r m c.if-marks-r-ne1.false)
    (rw c.if-leads_to.true at (c.leads_to.ensures (notafter R) R g.notafters li lr))

pub returns-else-leads_to : goal.returns-else-leads_to
returns-else-leads_to c =
    λ R t g li lr m. linked-inside R t _ _ (marked-on R _ _ c.args.i m c.if-marks-i-ne1.false) (marked-on R _ _ c.args.r m c.if-marks-r-ne1.false)
    (rw c.if-leads_to.false at (c.leads_to.ensures (notafter R) R g.notafters li lr))

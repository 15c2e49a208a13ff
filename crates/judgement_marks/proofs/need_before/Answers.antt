-- `need_before` meets its contract. Assumes nothing.
use Rattle.std.proofs.Common.{arith}
use Rattle.judgement_marks.proofs.Entering.{first-enabler}
use Rattle.judgement_marks.proofs.Standing.{enabler-need, init-need}
use Rattle.judgement_marks.proofs.need_before.Goals as goal

pub returns-in-Some : goal.returns-in-Some
returns-in-Some c =
    let s = rw c.lefts.ensures.rows at c.in-Some.ensures.steps.1 in (
      omega (arith, c.if-a-x.true),
      s.1.1,
      λ h. c.if-a-x.true,
      λ R g l. let k = first-enabler R c.args.rows.now g c.args.x c.lefts.result.row l c.lefts.ensures.row (λ z. absurd (omega (arith, s.0, z))) in
          rw s.1.0 (k.0, enabler-need g.formed _ _ k.1),
    )

pub returns-in_default : goal.returns-in_default
returns-in_default c = (omega arith, omega arith, λ h. h, λ R g l. (omega arith, init-need g.formed _))

pub returns-in_default-2 : goal.returns-in_default-2
returns-in_default-2 c = (omega arith, omega arith, λ h. h, λ R g l. (omega arith, init-need g.formed _))

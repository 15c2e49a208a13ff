-- `has_order` meets its contract. Assumes nothing.
use mathlib.Core.Path.{◌∙◌}
use Rattle.judgement_marks.proofs.Pairs.{ordered-never, ordered-never-right, ordered-rows}
use Rattle.judgement_marks.proofs.Standing.{marked-on, marked-off}
use Rattle.record.specs.Judgement.{never}
use Rattle.record.specs.Record.{notafter}
use Rattle.judgement_marks.proofs.has_order.Goals as goal

pub returns-then-nevermarks-a-eq1 : goal.returns-then-nevermarks-a-eq1
returns-then-nevermarks-a-eq1 c =
    λ R g la lb e. ordered-never R _ _ (marked-on R (never R) _ c.args.a e c.if-nevermarks-a-eq1.true)

pub returns-then-nevermarks-b-eq1 : goal.returns-then-nevermarks-b-eq1
returns-then-nevermarks-b-eq1 c =
    λ R g la lb e. ordered-never-right R _ _ (marked-on R (never R) _ c.args.b e c.if-nevermarks-b-eq1.true)

pub returns : goal.returns
returns c =
    λ R g la lb e. c.leads_either_way.ensures (notafter R) R g.notafters la lb
    ∙ ordered-rows R _ _ (marked-off R (never R) _ c.args.a e la c.if-nevermarks-a-eq1.false) (marked-off R (never R) _ c.args.b e lb c.if-nevermarks-b-eq1.false)

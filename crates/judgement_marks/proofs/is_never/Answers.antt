-- `is_never` meets its contract. Assumes nothing.
use mathlib.Core.Path.{sym, ◌∙◌}
use native.Mathlib.Omega.{arith}
use Rattle.judgement_marks.proofs.Entering.{bit-yes, bit-no}
use Rattle.judgement_marks.proofs.Standing.{never-must, never-need, never-entering, two-known, calm-two, unmarked-above, must-init, must-on}
use Rattle.graph.proofs.links.Names.{get_or-among}
use Rattle.record.specs.Judgement.{must}
use Rattle.record.specs.Record.{names}
use Rattle.record.proofs.Order.{needs-closed}
use Rattle.judgement_marks.proofs.is_never.Goals as goal

pub returns-then-mustmarks-x-eq1 : goal.returns-then-mustmarks-x-eq1
returns-then-mustmarks-x-eq1 c =
    λ R g f q l e u v. sym u ∙ never-must g.formed _ (must-on R _ c.args.x e c.if-mustmarks-x-eq1.true)

pub returns-then-nevermarks-a-eq1 : goal.returns-then-nevermarks-a-eq1
returns-then-nevermarks-a-eq1 c =
    let a = c.need_before-a in
    λ R g f q l e u v. let k = a.ensures.3 R g (omega arith) in
    sym (never-need g.formed _ _ (get_or-among (names R) a.result k.0) k.1
    (bit-yes _ _ (v a.result (a.ensures.2 (unmarked-above R (must R) _ c.args.x e (must-init R) c.if-mustmarks-x-eq1.false))) c.if-nevermarks-a-eq1.true))

pub returns : goal.returns
returns c =
    let a = c.need_before-a in
    λ R g f q l e u v. let k = a.ensures.3 R g (omega arith) in
    let i = two-known g.formed _ (get_or-among (names R) a.result k.0) in
    let o = c.needs_marks-old.ensures R g k.0 e in
    let z = needs-closed R g.formed _ in
    c.closes_ring.ensures R _ g f q l z i o
    (calm-two R _ (bit-no _ _ (v a.result (a.ensures.2 (unmarked-above R (must R) _ c.args.x e (must-init R) c.if-mustmarks-x-eq1.false))) c.if-nevermarks-a-eq1.false))
    (c.with_needs-marks.ensures R _ g (omega arith) z i o)
    ∙ never-entering g.formed _ _ k.1

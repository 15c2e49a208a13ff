-- `schedules::Admission::admit` meets its contract. Assumes nothing.
use mathlib.Core.Path.{sym, ◌∙◌}
use native.Mathlib.Omega.{arith}
use Rattle.judgement_marks.proofs.schedules.Admitting.{admit-had, admit-need, admit-barred, admit-ring, admit-new, needs-cons}
use Rattle.judgement_marks.proofs.Standing.{part-ring, marked-on, marked-off, unmarked-above}
use Rattle.graph.proofs.links.Names.{get_or-among}
use Rattle.lists.specs.Lists.{mem}
use Rattle.record.specs.Record.{names}
use Rattle.judgement_marks.proofs.schedules.Admission.admit.Goals as goal
use Rattle.judgement_marks.proofs.schedules.Admission.admit.Goals.{else-self-via-then-self+else-closes_ring, else-self-via-else-self}

pub returns-then-marks-x-eq1 : goal.returns-then-marks-x-eq1
returns-then-marks-x-eq1 c =
    λ R h t g f q u m i b r k calm miss e. rw (admit-had R g.formed h t k _ (marked-on R (λ y. mem y t) _ c.args.x e c.if-marks-x-eq1.true)) e

pub returns-then-marks-need-ne1 : goal.returns-then-marks-need-ne1
returns-then-marks-need-ne1 c =
    let a = c.need_before-need in
    λ R h t g f q u m i b r k calm miss e. let j = a.ensures.3 R g (omega arith) in
    rw (admit-need R g.formed h t k _ _ (get_or-among (names R) c.args.x (omega arith)) (get_or-among (names R) a.result j.0) j.1
    (miss a.result (a.ensures.2 (unmarked-above R (λ y. mem y t) _ c.args.x e k.init-in c.if-marks-x-eq1.false)) (marked-off R (λ y. mem y t) _ a.result e j.0 c.if-marks-need-ne1.true))) e

pub returns-then-is_shut : goal.returns-then-is_shut
returns-then-is_shut c =
    λ R h t g f q u m i b r k calm miss e. let w = c.with_needs-more.ensures R t g (omega arith) k.closed k.known e in
    rw (admit-barred R g.formed h t k _ (sym (c.is_shut.ensures R h t g q u k e w m i b) ∙ c.if-is_shut.true)) e

pub returns-then-closes_ring : goal.returns-then-closes_ring
returns-then-closes_ring c =
    λ R h t g f q u m i b r k calm miss e. let w = c.with_needs-more.ensures R t g (omega arith) k.closed k.known e in
    rw (admit-ring R g.formed h t k _ (sym (c.closes_ring.ensures R t g f q u k.closed k.known e calm w) ∙ c.if-closes_ring.true)) e

pub returns : goal.returns
returns c =
    λ R h t g f q u m i b r k calm miss e. let w = c.with_needs-more.ensures R t g (omega arith) k.closed k.known e in
    rw (admit-new R g.formed h t k _ (marked-off R (λ y. mem y t) _ c.args.x e (omega arith) c.if-marks-x-eq1.false)
    (sym (c.is_shut.ensures R h t g q u k e w m i b) ∙ c.if-is_shut.false)
    (elim c.else-self.branch [
      | else-self-via-then-self+else-closes_ring v ↦ sym (v.closes_ring.ensures R t g f q u k.closed k.known e calm w) ∙ v.if-closes_ring.false
      | else-self-via-else-self v ↦ part-ring R _ (sym r ∙ v.if-self.false) (needs-cons R g.formed t _ (get_or-among (names R) c.args.x (omega arith)) k.known)
    ])) w

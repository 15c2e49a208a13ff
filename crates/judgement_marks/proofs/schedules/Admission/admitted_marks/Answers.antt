-- `schedules::Admission::admitted_marks` meets its contract. Assumes nothing.
use native.Mathlib.Omega.{arith}
use Rattle.judgement_marks.proofs.schedules.Admitting.{admitting-start, admitting-step, admitting-end}
use Rattle.judgement_marks.proofs.schedules.Admission.admitted_marks.Goals as goal

pub loop-x-init : goal.loop-x-init
loop-x-init c =
    (omega arith, λ R h g f q m i b r calm. admitting-start R g.formed h _ calm m)

pub loop-x-preserved : goal.loop-x-preserved
loop-x-preserved c =
    let l = c.loop-x in
    (omega arith, λ R h g f q m i b r calm. admitting-step R g.formed h l.marks _ l.x (omega arith) (λ t k z o e. c.admit.ensures R h t g f q (omega arith) m i b r k z o e) (l.invariant.1 R h g f q m i b r calm))

pub returns : goal.returns
returns c =
    let l = c.loop-x in
    λ R h g f q m i b r calm. admitting-end R h l.marks l.x (omega arith) (l.invariant.1 R h g f q m i b r calm)

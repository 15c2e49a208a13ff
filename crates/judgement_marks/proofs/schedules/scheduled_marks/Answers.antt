-- `schedules::scheduled_marks` meets its contract. Assumes nothing.
use mathlib.Core.Path.{sym, ◌∙◌}
use Rattle.judgement_marks.proofs.schedules.Admitting.{all-scheduled, none-scheduled}
use Rattle.judgement_marks.proofs.Standing.{part-ring, must-musts}
use Rattle.record.specs.Record.{names}
use Rattle.record.specs.Schedule.{musts}
use Rattle.record.proofs.Scheduled.{musts-known}
use Rattle.judgement_marks.proofs.schedules.scheduled_marks.Goals as goal

pub returns-then-has_ring : goal.returns-then-has_ring
returns-then-has_ring c =
    λ R h g f q m i. m ∙ none-scheduled R g.formed h (sym (c.has_ring.ensures R (musts R) g.notafters q (musts-known R g.formed) (m ∙ must-musts R)) ∙ c.if-has_ring.true)

pub returns-then-ringed : goal.returns-then-ringed
returns-then-ringed c =
    λ R h g f q m i. let e = c.all_marks-all.ensures R q in
    c.admitted_marks.ensures R h g f q m i (c.any_barred-barring.ensures R h (names R) q (λ x k. k) e m i) (c.has_ring-ringed.ensures R (names R) g.notafters q (λ x k. k) e)
    (sym (c.has_ring.ensures R (musts R) g.notafters q (musts-known R g.formed) (m ∙ must-musts R)) ∙ c.if-has_ring.false)

pub returns-then-barring : goal.returns-then-barring
returns-then-barring c =
    λ R h g f q m i. let e = c.all_marks-all.ensures R q in
    let r = c.has_ring-ringed.ensures R (names R) g.notafters q (λ x k. k) e in
    c.admitted_marks-then-barring.ensures R h g f q m i (c.any_barred-barring.ensures R h (names R) q (λ x k. k) e m i) r
    (part-ring R (musts R) (sym r ∙ c.if-ringed.false) (musts-known R g.formed))

pub returns : goal.returns
returns c =
    let a = c.all_marks-all in
    λ R h g f q m i. let e = a.ensures R q in
    e ∙ all-scheduled R g.formed h g.notafters.few (sym (c.any_barred-barring.ensures R h (names R) q (λ x k. k) e m i) ∙ c.if-barring.false)
    (sym (c.has_ring-ringed.ensures R (names R) g.notafters q (λ x k. k) e) ∙ c.if-ringed.false)

-- `never_marks` meets its contract. Assumes nothing.
use mathlib.Core.Path.{sym, ◌∙◌}
use Rattle.judgement_marks.proofs.Standing.{must-musts, never-nowhere, never-everywhere}
use Rattle.graph.proofs.links.Marks.{none-marked}
use Rattle.record.specs.Record.{names}
use Rattle.record.proofs.Scheduled.{musts-known}
use Rattle.judgement_marks.proofs.never_marks.Goals as goal

pub returns-then-not-ringed : goal.returns-then-not-ringed
returns-then-not-ringed c R g q e =
    none-marked R g.notafters.few ∙ never-nowhere g.formed g.notafters.few
    (sym (c.has_ring-ringed.ensures R (names R) g.notafters q (λ x k. k) (c.all_marks-all.ensures R q)) ∙ c.if-not-ringed.true)

pub returns-then-has_ring : goal.returns-then-has_ring
returns-then-has_ring c R g q e =
    c.all_marks-all.ensures R q ∙ never-everywhere g.formed g.notafters.few
    (sym (c.has_ring.ensures R _ g.notafters q (musts-known R g.formed) (e ∙ must-musts R)) ∙ c.if-has_ring.true)

pub returns : goal.returns
returns c R g q e =
    c.sound_nevers.ensures R g q e
    (sym (c.has_ring.ensures R _ g.notafters q (musts-known R g.formed) (e ∙ must-musts R)) ∙ c.if-has_ring.false)

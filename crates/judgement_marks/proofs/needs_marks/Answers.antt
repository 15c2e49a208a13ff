-- `needs_marks` meets its contract. Assumes nothing.
use mathlib.Core.Path.{◌∙◌}
use Rattle.judgement_marks.proofs.Standing.{musts-closed, needs-closure, must-musts}
use Rattle.record.specs.Schedule.{musts}
use Rattle.record.proofs.Scheduled.{musts-known}
use Rattle.judgement_marks.proofs.needs_marks.Goals as goal

pub returns : goal.returns
returns c R g l e =
    c.with_needs.ensures R (musts R) g l (musts-closed g.formed) (musts-known R g.formed) (e ∙ must-musts R)
    ∙ needs-closure g.formed _ g.enablers.few

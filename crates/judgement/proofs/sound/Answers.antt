-- `sound` meets its contract. Assumes nothing.
use mathlib.Core.Path.{◌∙◌}
use Rattle.judgement.proofs.Judging.{sound-ring}
use Rattle.judgement_marks.proofs.Standing.{must-musts}
use Rattle.record.proofs.Scheduled.{musts-known}
use Rattle.judgement.proofs.sound.Goals as goal

pub returns : goal.returns
returns c R e f =
    let g = c.resolved-graph.ensures R e f in
    sound-ring R _ (c.has_ring.ensures R _ g.0.notafters g.1 (musts-known R f.formed) (c.must_marks-mustmarks.ensures R g.0 ∙ must-musts R))

-- `plan` meets its contract. Assumes nothing.
use mathlib.Core.Path.{◌∙◌}
use Rattle.judgement.proofs.Judging.{sound-ring, marked-hides}
use Rattle.judgement_marks.proofs.Standing.{must-musts}
use Rattle.record.proofs.Scheduled.{musts-known}
use Rattle.judgement.proofs.plan.Goals as goal

pub returns : goal.returns
returns c R e f =
    let g = c.resolved-graph.ensures R e f in
    let m = c.must_marks-mustmarks.ensures R g.0 in (
      sound-ring R _ (c.has_ring-ring.ensures R _ g.0.notafters g.1 (musts-known R f.formed) (m ∙ must-musts R)),
      m,
      c.edits_of.ensures R _ e f (c.schedule_row-pages.ensures R _ g.0 g.1 m (marked-hides R f _)),
    )

-- `schedule` meets its contract. Assumes nothing.
use Rattle.judgement.proofs.Judging.{marked-hides}
use Rattle.judgement.proofs.schedule.Goals as goal

pub returns : goal.returns
returns c R e f =
    let g = c.resolved-graph.ensures R e f in
    c.edits_of.ensures R _ e f (c.schedule_row-row.ensures R _ g.0 g.1 (c.must_marks-mustmarks.ensures R g.0) (marked-hides R f _))

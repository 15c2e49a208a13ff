-- `settleds` meets its contract. Assumes nothing.
use Rattle.judgement.proofs.settleds.Goals as goal

pub returns : goal.returns
returns c R e f =
    let g = c.resolved-graph.ensures R e f in
    let m = c.must_marks-mustmarks.ensures R g.0 in
    c.settled_marks.ensures R g.0 g.1 m (c.never_marks-nevermarks.ensures R g.0 g.1 m)

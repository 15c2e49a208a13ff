-- `nevers` meets its contract. Assumes nothing.
use Rattle.judgement.proofs.nevers.Goals as goal

pub returns : goal.returns
returns c R e f = let g = c.resolved-graph.ensures R e f in c.never_marks.ensures R g.0 g.1 (c.must_marks-mustmarks.ensures R g.0)

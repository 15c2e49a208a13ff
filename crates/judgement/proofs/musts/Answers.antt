-- `musts` meets its contract. Assumes nothing.
use Rattle.judgement.proofs.musts.Goals as goal

pub returns : goal.returns
returns c R e f = c.must_marks.ensures R (c.resolved-graph.ensures R e f).0

-- `needs` meets its contract. Assumes nothing.
use Rattle.std.proofs.Common.{arith}
use Rattle.judgement.proofs.Judging.{name-past}
use Rattle.judgement_marks.proofs.Standing.{names-some}
use Rattle.judgement.proofs.needs.Goals.{then-index-graph, else-index-graph}
use Rattle.judgement.proofs.needs.Goals as goal

pub returns : goal.returns
returns c R e f =
    let g = c.resolved-graph.ensures R e f in
    let m = c.must_marks-mustmarks.ensures R g.0 in
    elim c.if-index-graph.branch [
      | then-index-graph w ↦ rw w.known-is at (c.needs_marks.ensures R g.0 (rw w.known-is (omega (arith, w.if-index-graph.true, g.1))) m)
      | else-index-graph w ↦ rw (← name-past R c.args.index (omega (arith, w.if-index-graph.false, g.1))) (rw w.known-is at (c.needs_marks.ensures R g.0 (rw w.known-is (names-some R)) m))
    ]

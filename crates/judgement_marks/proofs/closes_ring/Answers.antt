-- `closes_ring` meets its contract. Assumes nothing.
use mathlib.Core.Path.{sym}
use native.Mathlib.Omega.{arith}
use Rattle.judgement_marks.proofs.Entering.{entering-known, entering-calm}
use Rattle.judgement_marks.proofs.closes_ring.Goals as goal

pub returns-then-any_row : goal.returns-then-any_row
returns-then-any_row c =
    λ R t g h q l cl k o calm m. c.has_new_ring.ensures R t _ g.notafters q (entering-known R t c.args.graph.now.rows c.args.old.now g c.args.x (omega arith) cl k o) o calm m

pub returns : goal.returns
returns c =
    λ R t g h q l cl k o calm m. sym (entering-calm R t c.args.graph.now.rows c.args.old.now g c.args.x (omega arith) cl k o (c.any_row.ensures.none c.if-any_row.false) c.args.reversed.now _ h m (c.any_row-else-any_row.ensures.none c.if-any_row-2.false) calm)

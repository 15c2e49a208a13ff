use mathlib.Core.Path.{◌≡◌}
use mathlib.Core.Bool.{cond}
use lib.ListN.{length}
use Rattle.graph.specs.links.Resolved.{Resolved}
use Rattle.graph.specs.links.Marks.{marks_of}
use Rattle.graph.proofs.links.Marks.{Filled}
use Rattle.record.specs.Judgement.{must, never, settled}
use Rattle.record.specs.Record.{Record, names}
use Rattle.judgement_marks.proofs.settled_marks.Given as goal

abbrev pub invariant-loop-x : goal.invariant-loop-x
invariant-loop-x l =
    (length l.marks ≡ 128) × ((R : Record) → Resolved R l.graph.rows → l.graph.count ≡ length (names R) → l.mustmarks ≡ marks_of R (must R) → l.nevermarks ≡ marks_of R (never R) → Filled R (λ e. cond (settled R e) 1 0) l.x l.marks)

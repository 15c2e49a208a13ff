use mathlib.Core.Path.{◌≡◌}
use mathlib.Core.Bool.{false, cond}
use lib.ListN.{length}
use Rattle.graph.specs.links.Resolved.{Resolved}
use Rattle.graph.specs.links.Marks.{marks_of}
use Rattle.graph.proofs.links.Marks.{Filled}
use Rattle.record.specs.Judgement.{must, never}
use Rattle.record.specs.Record.{Record, names}
use Rattle.record.specs.Schedule.{musts, ring}
use Rattle.judgement_marks.proofs.sound_nevers.Given as goal

abbrev pub invariant-loop-x : goal.invariant-loop-x
invariant-loop-x l =
    (length l.marks ≡ 128) × ((R : Record) → Resolved R l.graph.rows → l.graph.count ≡ length (names R) → l.mustmarks ≡ marks_of R (must R) → ring R (musts R) ≡ false → Filled R (λ e. cond (never R e) 1 0) l.x l.marks)

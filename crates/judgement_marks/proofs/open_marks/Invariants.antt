use mathlib.Core.Path.{◌≡◌}
use lib.ListN.{length}
use Rattle.graph.specs.links.Resolved.{Resolved}
use Rattle.judgement_marks.proofs.Opening.{Openings}
use Rattle.graph.specs.links.Marks.{marks_of}
use Rattle.record.specs.Judgement.{never}
use Rattle.record.specs.Record.{Record, names}
use Rattle.judgement_marks.proofs.open_marks.Given as goal

abbrev pub invariant-loop-b : goal.invariant-loop-b
invariant-loop-b l =
    (length l.openmarks ≡ 128) × ((R : Record) → Resolved R l.graph.rows → l.graph.count ≡ length (names R) → l.nevermarks ≡ marks_of R (never R) → Openings R l.b l.openmarks)

use Prim.Native.Nat.{ℕ, ◌≤◌}
use mathlib.Core.Path.{◌≡◌}
use mathlib.Core.Bool.{false}
use mathlib.Core.List.{List}
use lib.ListN.{length}
use Rattle.judgement_marks.specs.schedules.Rows.{Hides}
use Rattle.judgement_marks.proofs.schedules.Admitting.{Admitting}
use Rattle.graph.specs.links.Resolved.{Resolved}
use Rattle.graph.specs.links.Marks.{marks_of}
use Rattle.graph.specs.links.Reversed.{Reversed}
use Rattle.record.specs.Judgement.{must}
use Rattle.lists.specs.Lists.{any}
use Rattle.record.specs.Record.{Record, names}
use Rattle.record.specs.Schedule.{musts, ring, bars}
use Rattle.judgement_marks.proofs.schedules.Admission.admitted_marks.Given as goal

abbrev pub invariant-loop-x : goal.invariant-loop-x
invariant-loop-x l =
    (1 ≤ l.x) × ((R : Record) (hiddens : List ℕ) → Resolved R l.self.graph.now.rows → Reversed R l.self.reversed.now → l.self.graph.now.count ≡ length (names R) → l.self.mustmarks.now ≡ marks_of R (must R) → Hides R l.self.hidden.now hiddens → l.self.barring ≡ any (bars R hiddens) (names R) → l.self.ringed ≡ ring R (names R) → ring R (musts R) ≡ false → Admitting R hiddens l.marks l.x)

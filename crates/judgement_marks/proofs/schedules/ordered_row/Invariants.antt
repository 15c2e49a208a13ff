use Prim.Native.Nat.{ℕ, ◌-◌, ◌≤◌, ◌<◌}
use mathlib.Core.Path.{◌≡◌}
use mathlib.Core.Bool.{false}
use mathlib.Core.List.{List, map}
use lib.ListN.{length, get_or, take}
use Rattle.judgement_marks.specs.schedules.Rows.{free}
use Rattle.judgement_marks.proofs.schedules.Ordering.{Ordering, is_waiting}
use Rattle.graph.specs.links.Resolved.{Resolved}
use Rattle.graph.specs.links.Marks.{name_at, marks_of}
use Rattle.graph.specs.links.Reversed.{Reversed}
use Rattle.lists.specs.Lists.{mem, ◌within◌}
use Rattle.record.specs.Record.{Record, names}
use Rattle.judgement_marks.proofs.schedules.ordered_row.Given as goal

abbrev pub invariant-loop-count : goal.invariant-loop-count
invariant-loop-count l =
    (l.count ≤ l.graph.count) × (length l.indexes ≡ 128) × (length l.waits ≡ 128) × ((q : ℕ) → get_or l.indexes q 0 < 128) × (l.from ≤ l.graph.count)
    × ((R : Record) (t : List ℕ) → Resolved R l.graph.rows → Reversed R l.reversed → l.graph.count ≡ length (names R) → t within names R → l.initial.waits ≡ marks_of R (λ y. mem y t)
    → Ordering R t l.indexes l.waits l.count (l.graph.count - l.count) × ((y : ℕ) → y < l.from → free R (is_waiting t (map (name_at R) (take l.count l.indexes))) (name_at R y) ≡ false))

use Prim.Native.Nat.{ℕ, ◌≤◌}
use mathlib.Core.Path.{◌≡◌}
use mathlib.Core.Bool.{true}
use mathlib.Core.List.{List}
use lib.ListN.{length}
use Rattle.judgement_marks.specs.schedules.Rows.{RowIs}
use Rattle.judgement_marks.proofs.schedules.Paging.{Paging}
use Rattle.lists.specs.Lists.{distinct}
use Rattle.record.specs.Record.{Record, names}
use Rattle.judgement_marks.proofs.schedules.page_values.Given as goal

abbrev pub invariant-loop-k : goal.invariant-loop-k
invariant-loop-k l =
    (l.k ≤ l.row.count) × (length l.pages ≡ 128) × ((R : Record) (list : List ℕ) → distinct (names R) ≡ true → length (names R) ≤ 128 → RowIs R l.row list → Paging R list l.pages l.k)

abbrev pub decreases-loop-k : goal.decreases-loop-k
decreases-loop-k l = l.k

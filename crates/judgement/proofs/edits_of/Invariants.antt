use Rattle.std.proofs.Common.{ℕ, ◌≡◌, ◌-◌, ◌≤◌, List, length}
use Rattle.judgement.proofs.Listing.{Listing}
use Rattle.graph.specs.indexes.Fit.{Fit}
use Rattle.judgement_marks.specs.schedules.Rows.{RowIs}
use Rattle.record.specs.Record.{Record}
use Rattle.record.specs.Schedule.{schedule}
use Rattle.record.specs.Stored.{stored}
use Rattle.judgement.proofs.edits_of.Given as goal

abbrev pub invariant-loop-q : goal.invariant-loop-q
invariant-loop-q l =
    (1 ≤ l.q) × (l.q - 1 ≤ l.row.count - 1) × (length l.schedule.edits ≡ 127) × (l.schedule.count ≡ l.q - 1)
    × ((R : Record) (hidden : List ℕ) → l.multilog ≡ stored R → Fit R → RowIs R l.row (schedule R hidden) → Listing R (schedule R hidden) l.schedule.edits l.q)

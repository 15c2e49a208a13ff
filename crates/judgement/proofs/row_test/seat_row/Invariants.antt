use Rattle.std.proofs.Common.{◌≡◌, length}
use Rattle.graph.specs.indexes.Indexed.{Indexed}
use Rattle.judgement.proofs.row_test.Seating.{Seating}
use Rattle.graph.specs.indexes.Fit.{Fit}
use Rattle.record.specs.Record.{Record}
use Rattle.judgement.proofs.row_test.seat_row.Given as goal

abbrev pub invariant-loop-q : goal.invariant-loop-q
invariant-loop-q l = (length l.places ≡ 128) × ((R : Record) → Fit R → Indexed R l.table → Seating R l.row l.places l.q)

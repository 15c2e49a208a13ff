use Rattle.std.proofs.Common.{◌+◌, ◌≡◌, length}
use Rattle.graph.specs.indexes.Fit.{Fit}
use Rattle.graph.proofs.indexes.Tables.{Indexing}
use Rattle.record.specs.Record.{Record}
use Rattle.record.specs.Stored.{stored}
use Rattle.graph.proofs.indexes.index_table.Given as goal

abbrev pub invariant-loop-i : goal.invariant-loop-i
invariant-loop-i l = (length l.table ≡ 2304) × ((R : Record) → l.fn.multilog ≡ stored R → Fit R → Indexing R l.table (l.i + 1))

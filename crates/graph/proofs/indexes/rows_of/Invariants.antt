use Rattle.std.proofs.Common.{◌≡◌, ◌≤◌, length}
use Rattle.graph.specs.indexes.Fit.{Fit}
use Rattle.graph.specs.indexes.Indexed.{Indexed}
use Rattle.graph.proofs.indexes.Resolving.{keys_of, lefts_of}
use Rattle.graph.proofs.links.Links.{Linking}
use Rattle.record.specs.Record.{Record}
use Rattle.record.specs.Stored.{stored}
use Rattle.graph.proofs.indexes.rows_of.Given as goal

abbrev pub invariant-loop-constraint : goal.invariant-loop-constraint
invariant-loop-constraint l =
    (l.linking.count ≡ l.constraint-index) × (length l.constraint-items ≤ 512)
    × ((R : Record) → l.fn.multilog ≡ stored R → Fit R → Indexed R l.table
    → Linking (keys_of R) (lefts_of R) l.linking.cells l.constraint-index)

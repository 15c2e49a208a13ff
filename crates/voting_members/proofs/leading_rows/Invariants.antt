use Rattle.std.proofs.Common.{◌≡◌, ◌*◌, ◌≤◌, length}
use Rattle.record.specs.Stored.{stored}
use Rattle.record.specs.Record.{Record}
use Rattle.graph.specs.links.Resolved.{Resolved}
use Rattle.voting_members.proofs.Rowing.{Rowing}
use Rattle.graph.specs.indexes.Fit.{Fit}
use Rattle.graph.specs.indexes.Indexed.{Indexed}
use Rattle.voting_members.proofs.leading_rows.Given as goal

abbrev pub invariant-loop-constraint : goal.invariant-loop-constraint
invariant-loop-constraint l =
    (l.linking.count ≡ 2 * l.constraint-index) × (length l.constraint-items ≤ 512)
    × ((R : Record) → l.fn.multilog ≡ stored R → Fit R → Indexed R l.table → Resolved R l.own
    → Rowing R l.linking.cells l.constraint-index)

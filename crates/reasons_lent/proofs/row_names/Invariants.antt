use mathlib.Core.Path.{◌≡◌}
use mathlib.Core.List.{map}
use lib.ListN.{length, take}
use Rattle.record.specs.Record.{Record}
use Rattle.record.specs.Stored.{stored}
use Rattle.graph.specs.links.Marks.{name_at}
use Rattle.reasons_lent.proofs.row_names.Given as goal

abbrev pub invariant-loop-index : goal.invariant-loop-index
invariant-loop-index l =
    (length l.names.items ≡ l.index-index) × ((R : Record) → l.multilog ≡ stored R → l.names.items ≡ map (name_at R) (take l.index-index l.row.indexes))

use Prim.Native.Nat.{ℕ}
use mathlib.Core.Path.{◌≡◌}
use mathlib.Core.List.{List, ◌∷◌}
use Rattle.std.specs.Prelude.{Ok, flat_map}
use lib.ListN.{take}
use Rattle.record.specs.Record.{Record, written}
use Rattle.record.specs.declared.Constraint.{Constraint}
use Rattle.record.specs.Stored.{stored}
use Rattle.lists.specs.Keyed.{Ascending, united}
use Rattle.record_tables.specs.Table.{constraint_key}
use Rattle.record_joining.specs.insertion.Insertion.{table_of}
use Rattle.voting_decisions.specs.Decisions.{Paged, decision_row}
use Rattle.voting_decisions.proofs.with_decisions.Given as goal

abbrev pub invariant-loop-i : goal.invariant-loop-i
invariant-loop-i l =
    (R : Record) (rest index : List ℕ) (t : List Constraint) → l.fn.multilog ≡ stored R → Paged R rest index l.pages → Ok l.fn.table ≡ table_of t → Ascending constraint_key t
    → Ok l.out ≡ table_of (united constraint_key t (flat_map (decision_row (0 ∷ rest)) (take l.i (written R))))

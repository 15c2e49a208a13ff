use Prim.Native.Nat.{ℕ}
use mathlib.Core.Path.{◌≡◌}
use mathlib.Core.List.{List}
use Rattle.std.specs.Prelude.{Ok, flat_map}
use lib.ListN.{take}
use Rattle.record.specs.declared.Constraint.{Constraint}
use Rattle.lists.specs.Keyed.{Ascending, united}
use Rattle.record_tables.specs.Table.{constraint_key}
use Rattle.record_joining.specs.insertion.Insertion.{table_of}
use Rattle.voting_drafts.specs.ranking.Ranking.{pair_order}
use Rattle.voting_drafts.proofs.ranking.with_orders.Given as goal

abbrev pub invariant-loop-c : goal.invariant-loop-c
invariant-loop-c g l =
    (t : List Constraint) (ranks : ℕ → ℕ) → ((x r : ℕ) → goal.F-post g l.rank x r → r ≡ ranks x)
    → Ok l.fn.table ≡ table_of t → Ascending constraint_key t → Ok l.out ≡ table_of (united constraint_key t (flat_map (pair_order ranks) (take l.c-index l.pairs)))

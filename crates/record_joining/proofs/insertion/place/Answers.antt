-- `insertion::place` meets its contract. Assumes nothing.
use Rattle.std.proofs.Common.{rules}
use Rattle.std.proofs.lemmas.List.Sorted.{IsPartitionPoint-from_clause}
use Rattle.record.specs.declared.Constraint.{Constraint}
use Rattle.lists.specs.Keyed.{precedes}
use Rattle.record_tables.specs.Table.{constraint_key}
use Rattle.record_joining.proofs.insertion.Places.{ordered-parts, point-place}
use Rattle.record_joining.proofs.insertion.place.Goals as goal

pub returns : goal.returns
returns c =
    let s = c.args in
    let p = c.partition_point in (
      λ a. point-place constraint_key s.c s.rows.now p.result p.ensures.bound
          (IsPartitionPoint-from_clause (λ (y : Constraint). precedes (constraint_key y) (constraint_key s.c)) s.rows.now p.result p.ensures.partitioned (ordered-parts constraint_key s.c s.rows.now a) (λ a r h q. search rules)),
      p.ensures.bound,
    )

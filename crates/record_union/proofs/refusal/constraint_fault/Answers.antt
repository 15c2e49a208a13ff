-- `refusal::constraint_fault` meets its contract. Assumes nothing.
use mathlib.Core.Path.{◌≡◌, ap, ◌∙◌}
use mathlib.Core.List.{map}
use Prim.Native.Nat.{ℕ}
use Rattle.record.specs.Stored.{record_of}
use Rattle.record_rows.specs.row.Row.{Row, constraint_row, constraint_in_range}
use Rattle.record_rows.specs.grounds.Ground.{table_fault}
use Rattle.record_tables.specs.Table.{constraint_further}
use Rattle.record_tables.specs.Checked.{marked_further}
use Rattle.record_tables.proofs.Further.{further_is}
use Rattle.record_tables.proofs.Elements.{constraint-rows-ascend}
use Rattle.record_union.proofs.refusal.constraint_fault.Goals as goal

pub returns : goal.returns
returns c = λ names k o.
    let s = c.args in
    let l = (record_of s.joined.now).constraints in
    let f : marked_further s.marks.now s.adding ≡ constraint_further names s.adding = λ i row. further_is names s.adding row s.marks.now k i in
    let e = (rw c.constraint_slice.ensures at c.table_fault.ensures) (constraint-rows-ascend l o.constraintorder) in
    e ∙ ap (λ (g : Row → ℕ). table_fault (record { key = 3; limit = 512; in_range = constraint_in_range; further = g }) (map constraint_row l) s.t.now) f

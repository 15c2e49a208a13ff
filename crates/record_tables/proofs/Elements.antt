-- The two kinds of table with the types of their elements. Assumes nothing.
use mathlib.Core.Bool.{Bool}
use mathlib.Core.List.{List, map}
use Prim.Native.Nat.{ℕ}
use native.Mathlib.Omega.{arith}
use lib.ListN.{take}
use Rattle.record.specs.declared.Edit.{Edit}
use Rattle.record.specs.declared.Constraint.{Constraint}
use Rattle.lists.specs.Keyed.{Ascending}
use Rattle.lists.proofs.Union.{ascending-map}
use Rattle.record_rows.specs.row.Row.{edit_width, constraint_width, edit_row, constraint_row, edit_of, constraint_of}
use Rattle.record_rows.proofs.row.Cells.{edit-wide, constraint-wide, edit-back, edit-again, constraint-back, constraint-again}
use Rattle.record_rows.proofs.grounds.Loop.{Elements}
use Rattle.record_rows.proofs.grounds.Decoded.{Coding}
use Rattle.record_rows.specs.element.Laws.{edit-keyed, constraint-keyed}
use Rattle.record_tables.specs.Table.{edit_kind, constraint_kind, edit_key, constraint_key}

abbrev pub edit_elements : Elements
edit_elements = record { A = Edit; kind = edit_kind; row_of = edit_row; width = edit_width; narrow = omega arith; wide = edit-wide }

abbrev pub constraint_elements : List ℕ → Bool → Elements
constraint_elements names adding =
    record { A = Constraint; kind = constraint_kind names adding; row_of = constraint_row; width = constraint_width; narrow = omega arith; wide = constraint-wide }

abbrev pub edit_coding : Coding edit_elements
edit_coding = record { key = edit_key; keyed = edit-keyed; of = edit_of; back = edit-back; again = edit-again }

abbrev pub constraint_coding : (names : List ℕ) (adding : Bool) → Coding (constraint_elements names adding)
constraint_coding names adding = record { key = constraint_key; keyed = constraint-keyed; of = constraint_of; back = constraint-back; again = constraint-again }

pub edit-rows-ascend : (l : List Edit) → Ascending edit_key l → Ascending (take 1) (map edit_row l)
edit-rows-ascend l a = ascending-map edit_key (take 1) edit_row l (λ e m. edit-keyed e) a

pub constraint-rows-ascend : (l : List Constraint) → Ascending constraint_key l → Ascending (take 3) (map constraint_row l)
constraint-rows-ascend l a = ascending-map constraint_key (take 3) constraint_row l (λ c m. constraint-keyed c) a

-- A row below rows without fault in the record's own order, as the code finds its fault, and what it has where it has none. Assumes nothing.
use mathlib.Core.Path.{◌≡◌, refl, sym, ◌∙◌}
use mathlib.Core.Bool.{false}
use mathlib.Core.List.{List, []}
use Prim.Native.Nat.{ℕ, ◌≤◌, ◌<◌}
use borrow.Author.Tests.{lt-ltb, le-ltb}
use lib.Dec.{ltb}
use lib.ListN.{length, take}
use Rattle.std.specs.Prelude.{Result, Ok, Err, IfOk}
use Rattle.lists.specs.Keyed.{Ascending}
use Rattle.record_rows.specs.row.Row.{Row}
use Rattle.record_rows.specs.grounds.Ground.{Rows, row_fault, ◌given◌, ◌orelse◌}
use Rattle.record_rows.proofs.grounds.Grounds.{orelse-first, orelse-second}
use Rattle.record_rows.proofs.grounds.Accepted.{row-clean, accepted-ascending}
use Rattle.record_tables.specs.Table.{names_of, edit_kind, constraint_kind}
use Rattle.record_tables.proofs.Marks.{row_small}
use Rattle.refusals.specs.declared.Refusal.{Refusal}
use Rattle.refusals.specs.Numbers.{number_of}
use Rattle.text.specs.Text.{LineManner, rows_number, no_ground, edit_fault, constraint_fault, own_manner}
use Rattle.text.specs.Above.{EditPlace, ConstraintPlace}
use Rattle.text.proofs.Faults.{alone-room}
use Rattle.text.proofs.OwnOrder.{own-tables, edit-fault-none, constraint-same}

-- an answer without fault has what number 0 gives
pub placed-by : {P : Type 0} (answer : Result Unit Refusal) {n : ℕ} → number_of answer ≡ n → (n ≡ 0 → P) → IfOk answer (λ _. P)
placed-by (Ok x) e k = k (sym e)
placed-by (Err refusal) e k = tt

-- the number of an edit, part by part
module _ (edits constraints : Rows) (row : Row) {number : ℕ} (is : number ≡ row_fault edit_kind [] edits row) where
  pub edit-faulty : (number ≡ 0 → ⊥) → number ≡ edit_fault no_ground edits constraints row
  unfolding edit_fault
  edit-faulty z = is ∙ sym (orelse-first (row_fault edit_kind [] edits row) (13 given ltb 0 (length constraints) orelse 0) (λ y. z (is ∙ y)))

  pub edit-late : number ≡ 0 → 0 < length constraints → 13 ≡ edit_fault no_ground edits constraints row
  unfolding edit_fault
  edit-late z h = sym (orelse-second (row_fault edit_kind [] edits row) (13 given ltb 0 (length constraints) orelse 0) (sym is ∙ z) ∙ rw (lt-ltb 0 (length constraints) h) refl)

  pub edit-clean : number ≡ 0 → length constraints ≤ 0 → 0 ≡ edit_fault no_ground edits constraints row
  unfolding edit_fault
  edit-clean z h = sym (orelse-second (row_fault edit_kind [] edits row) (13 given ltb 0 (length constraints) orelse 0) (sym is ∙ z) ∙ rw (le-ltb 0 (length constraints) h) refl)

-- below rows without fault
module _ (L : LineManner) (header : List ℕ) (last : Row → ℕ) (edits constraints : Rows) (h : rows_number (own_manner L header last) edits constraints ≡ 0) where
  pub edits-ascend : Ascending (take 1) edits
  edits-ascend = accepted-ascending edit_kind [] edits (own-tables last L header edits constraints h).0

  pub constraints-ascend : Ascending (take 3) constraints
  constraints-ascend = accepted-ascending (constraint_kind (names_of edits) false) [] constraints (own-tables last L header edits constraints h).1

  pub edit-placed : (row : Row) → edit_fault last edits constraints row ≡ 0 → EditPlace edits constraints row
  edit-placed row e =
      let p = edit-fault-none last edits constraints row e in
      record {
        edits-first = p.1;
        place = alone-room edit_kind edits row edits-ascend p.0;
        name = row_small row (row-clean edit_kind [] edits row p.0).range;
      }

  pub constraint-placed : (row : Row) → constraint_fault edits constraints row ≡ 0 → ConstraintPlace constraints
  constraint-placed row e = alone-room (constraint_kind (names_of edits) false) constraints row constraints-ascend (sym (constraint-same last edits constraints row) ∙ e)

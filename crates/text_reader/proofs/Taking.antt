-- A row that is judged and held. Assumes nothing.
use Rattle.std.proofs.Common.{◌≡◌, refl, sym, ◌∙◌, List, [], ◌∷◌, ◌++◌, ℕ, ◌+◌, ◌<◌, length, take, set, replicate, add-one, arith}
use Rattle.std.specs.Prelude.{Result, Ok, Err}
use mathlib.Core.Bool.{Bool, true, false, not, not-not}
use lib.Pointwise.{pointwise}
use lib.Dec.{eqb}
use mathlib.Core.List.{map-append}
use borrow.Author.Tests.{ne_eqb}
use lib.ListN.{length-set, length-replicate}
use lib.Seq.{length-take-le}
use Rattle.std.proofs.lemmas.List.{take_more_set}
use Rattle.record.specs.Stored.{edit_limit, constraint_limit}
use Rattle.record_rows.specs.row.Row.{Row, cell, same}
use Rattle.record_rows.proofs.row.Compared.{slice-same}
use Rattle.record_rows.specs.grounds.Ground.{Rows}
use Rattle.record_tables.specs.Table.{names_of}
use Rattle.record_tables.proofs.Marks.{marks-start, marks-more}
use Rattle.refusals.specs.declared.Refusal.{Refusal}
use Rattle.refusals.specs.Numbers.{number}
use Rattle.refusals.proofs.Numbers.{number-positive}
use Rattle.text_lines.specs.declared.Line.{Line}
use Rattle.text_lines.specs.declared.Line.TheVariants.{Edit, Constraint}
use Rattle.text.specs.Text.{Manner, ReadSoFar, line_fault, rows_number}
use Rattle.text.specs.Above.{EditPlace, ConstraintPlace}
use Rattle.text.proofs.Faultless.{none-faulty, edit-more, constraint-more}
use Rattle.text.proofs.InManner.{so_far}
use Rattle.text_reader.specs.Held.{RowsHeld, HeaderTaken, LineTaken, EditTaken, ConstraintTaken}

-- a line with a fault leaves the rows
pub refused-taken : (M : Manner) (before : ReadSoFar) (said : Result Line Refusal) {number : ℕ} → number ≡ line_fault M before.edits before.constraints said → (number ≡ 0 → ⊥) → LineTaken M before said number before
refused-taken M before said {number} f z = record { number_is = f; rows-are = rw (ne_eqb number 0 z) refl }

module _ (M : Manner) where
  pub unread-taken : (before : ReadSoFar) {said : Result Line Refusal} (refusal : Refusal) → Err refusal ≡ said → LineTaken M before said (number refusal) before
  unfolding line_fault
  unread-taken before refusal e = rw (← e) (refused-taken M before (Err refusal) refl (number-positive refusal))

  pub edit-not-taken : (n : ℕ) (edits constraints : Rows) (row : Row) {number : ℕ} → number ≡ M.edit_number edits constraints row → (number ≡ 0 → ⊥) → EditTaken M (so_far n edits constraints) row number (so_far n edits constraints)
  unfolding line_fault
  edit-not-taken n edits constraints row is z = refused-taken M (so_far n edits constraints) (Ok (Edit row)) is z

  pub constraint-not-taken : (n : ℕ) (edits constraints : Rows) (row : Row) {number : ℕ} → number ≡ M.constraint_number edits constraints row → (number ≡ 0 → ⊥) → ConstraintTaken M (so_far n edits constraints) row number (so_far n edits constraints)
  unfolding line_fault
  constraint-not-taken n edits constraints row is z = refused-taken M (so_far n edits constraints) (Ok (Constraint row)) is z

  -- the header
  module _ (n : ℕ) (edits constraints : Rows) (line header : List ℕ) {differ : Bool} (h : header ≡ M.header) (is : differ ≡ not (pointwise eqb line header)) where
    same-is : same line M.header ≡ not differ
    same-is = rw (← h, is, slice-same line header, not-not) refl

    pub header-refused : differ ≡ true → HeaderTaken M (so_far n edits constraints) line 1 (so_far n edits constraints)
    header-refused d = let e : same line M.header ≡ false = rw d at same-is in record { number_is = rw e refl; rows-are = rw e refl }

    pub header-taken : differ ≡ false → HeaderTaken M (so_far n edits constraints) line 0 (so_far (n + 1) edits constraints)
    header-taken d = let e : same line M.header ≡ true = rw d at same-is in record { number_is = rw e refl; rows-are = rw (e, add-one) refl }

  -- no rows
  pub held-start : RowsHeld M (replicate edit_limit (replicate 5 0)) (replicate constraint_limit (replicate 3 0)) (set (replicate 2304 0) 0 1) 0 0 0
  held-start =
      record {
        edit-size = length-replicate {A = List ℕ} edit_limit (replicate 5 0);
        constraint-size = length-replicate {A = List ℕ} constraint_limit (replicate 3 0);
        mark-size = length-set {A = ℕ} (replicate 2304 0) 0 1 ∙ length-replicate {A = ℕ} 2304 0;
        few-edits = omega arith;
        few-constraints = omega arith;
        few-lines = omega arith;
        above = record { faultless = none-faulty M; marked = marks-start 2304 (omega arith) };
      }

  module _ (edits constraints : Rows) (marks : List ℕ) (n m count : ℕ) (h : RowsHeld M edits constraints marks n m count) (row : Row) where
    module _ (p : EditPlace (take n edits) (take m constraints) row) where
      pub edit-inside : n < length edits
      edit-inside = omega (arith, h.edit-size, p.place, length-take-le n edits (omega (arith, h.edit-size, h.few-edits)))

      pub name-inside : cell row 0 < length marks
      name-inside = omega (arith, h.mark-size, p.name)

      names_more : names_of (take (n + 1) (set edits n row)) ≡ names_of (take n edits) ++ (cell row 0 ∷ [])
      names_more = rw (take_more_set edits n row edit-inside) (map-append (λ (r : Row). cell r 0) (take n edits) (row ∷ []))

      module _ (z : 0 ≡ M.edit_number (take n edits) (take m constraints) row) where
        one-more : rows_number M (take (n + 1) (set edits n row)) (take m constraints) ≡ 0
        one-more =
            let e : take m constraints ≡ [] = p.edits-first in
            rw (take_more_set edits n row edit-inside, e) (edit-more M (take n edits) row (rw e at h.above.faultless) (sym (rw e at z)))

        pub edit-held : RowsHeld M (set edits n row) constraints (set marks (cell row 0) 1) (n + 1) m (count + 1)
        edit-held =
            record {
              edit-size = length-set edits n row ∙ h.edit-size;
              constraint-size = h.constraint-size;
              mark-size = length-set marks (cell row 0) 1 ∙ h.mark-size;
              few-edits = omega (arith, edit-inside, h.edit-size);
              few-constraints = h.few-constraints;
              few-lines = omega (arith, h.few-lines);
              above = record { faultless = one-more; marked = rw names_more (marks-more marks (names_of (take n edits)) (cell row 0) name-inside h.above.marked) };
            }

        pub edit-taken : EditTaken M (so_far count (take n edits) (take m constraints)) row 0 (so_far (count + 1) (take (n + 1) (set edits n row)) (take m constraints))
        unfolding line_fault
        edit-taken = record { number_is = z; rows-are = rw (take_more_set edits n row edit-inside, add-one) refl }

    module _ (p : ConstraintPlace (take m constraints)) where
      pub constraint-inside : m < length constraints
      constraint-inside = omega (arith, h.constraint-size, p, length-take-le m constraints (omega (arith, h.constraint-size, h.few-constraints)))

      module _ (z : 0 ≡ M.constraint_number (take n edits) (take m constraints) row) where
        pub constraint-held : RowsHeld M edits (set constraints m row) marks n (m + 1) (count + 1)
        constraint-held =
            record {
              edit-size = h.edit-size;
              constraint-size = length-set constraints m row ∙ h.constraint-size;
              mark-size = h.mark-size;
              few-edits = h.few-edits;
              few-constraints = omega (arith, constraint-inside, h.constraint-size);
              few-lines = omega (arith, h.few-lines);
              above = record { faultless = rw (take_more_set constraints m row constraint-inside) (constraint-more M (take n edits) (take m constraints) row h.above.faultless (sym z)); marked = h.above.marked };
            }

        pub constraint-taken : ConstraintTaken M (so_far count (take n edits) (take m constraints)) row 0 (so_far (count + 1) (take n edits) (take (m + 1) (set constraints m row)))
        unfolding line_fault
        constraint-taken = record { number_is = z; rows-are = rw (take_more_set constraints m row constraint-inside, add-one) refl }

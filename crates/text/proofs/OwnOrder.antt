-- The manners whose rows stand in the record's own order are lawful: without fault the rows are a lent record without fault. Assumes nothing.
use mathlib.Core.Path.{◌≡◌, refl, sym, ◌∙◌}
use mathlib.Core.Bool.{Bool, true, false}
use mathlib.Core.List.{List, [], ◌∷◌, ◌++◌}
use Prim.Native.Nat.{ℕ, ◌≤◌}
use native.Mathlib.Omega.{arith}
use borrow.Author.Tests.{eqb-true, ltb-false}
use lib.Dec.{eqb, ltb}
use lib.ListN.{length}
use Rattle.lists.specs.Lists.{all}
use Rattle.lists.proofs.Lists.{and_l, and_r}
use Rattle.lists.proofs.Logic.{map-back}
use Rattle.record.specs.Record.{Record}
use Rattle.record.specs.Judgement.{sound}
use Rattle.record.specs.Stored.{edit_limit, constraint_limit}
use Rattle.record_rows.specs.row.Row.{Row, edit_of, constraint_of, edit_row, constraint_row}
use Rattle.record_rows.proofs.row.Cells.{edit-back, constraint-back}
use Rattle.record_rows.specs.grounds.Ground.{Rows, row_fault, table_fault, ◌given◌, ◌orelse◌}
use Rattle.record_rows.proofs.grounds.Grounds.{Clean, clean, clean_is, orelse-none, orelse-second, given-none}
use Rattle.record_rows.proofs.grounds.Accepted.{accepted-range}
use Rattle.record_tables.specs.Table.{edit_rows, constraint_rows, empty_tables, names_of, edit_kind, constraint_kind, lent_fault, join_fault}
use Rattle.record_tables.specs.Checked.{Checked}
use Rattle.record_tables.proofs.Records.{both, empty-checked, lent-checked, checked-faultless, checked-decoded, joining-editplaces, joining-constraintplaces}
use Rattle.text_lines.specs.Line.{line_limit}
use Rattle.text_lines.specs.Lines.{lines}
use Rattle.text.specs.Text.{LineManner, written_in, read_in, Accepted, rows_number, edit_fault, constraint_fault, own_manner}
use Rattle.text.specs.Rows.{read_rows_in}
use Rattle.text.proofs.Faultless.{rows-clean, clean-rows}
use Rattle.text.proofs.Manners.{LawfulLines, LawfulManner}
use Rattle.text.proofs.InManner.{rows-read-in, read-again-in}

-- a row without fault by one test is so by another
clean-by : (f g : Rows → Row → ℕ) (above t : Rows) → ((above : Rows) (row : Row) → f above row ≡ 0 → g above row ≡ 0) → Clean f above t → Clean g above t
clean-by f g above [] k c = tt
clean-by f g above (x ∷ t) k c = (k above x c.0, clean-by f g (above ++ (x ∷ [])) t k c.1)

-- and where each also passes
clean-with : (f g : Rows → Row → ℕ) (p : Row → Bool) (above t : Rows) → ((above : Rows) (row : Row) → f above row ≡ 0 → p row ≡ true → g above row ≡ 0) → Clean f above t → all p t ≡ true → Clean g above t
unfolding all
clean-with f g p above [] k c h = tt
clean-with f g p above (x ∷ t) k c h = (k above x c.0 (and_l (p x) (all p t) h), clean-with f g p (above ++ (x ∷ [])) t k c.1 (and_r (p x) (all p t) h))

no-rows : (l : Rows) → length l ≤ 0 → l ≡ []
no-rows [] z = refl
no-rows (x ∷ l) z = absurd (omega arith)

module _ (last : Row → ℕ) where
  -- a line without fault
  pub edit-fault-none : (edits constraints : Rows) (row : Row) → edit_fault last edits constraints row ≡ 0 → (row_fault edit_kind [] edits row ≡ 0) × (constraints ≡ [])
  unfolding edit_fault
  edit-fault-none edits constraints row h =
      let p = orelse-none (row_fault edit_kind [] edits row) (13 given ltb 0 (length constraints) orelse last row) h in
      let q = orelse-none (13 given ltb 0 (length constraints)) (last row) p.1 in
      (p.0, no-rows constraints (ltb-false 0 (length constraints) (given-none 12 (ltb 0 (length constraints)) q.0)))

  edit-none : (edits : Rows) (row : Row) → row_fault edit_kind [] edits row ≡ 0 → eqb (last row) 0 ≡ true → edit_fault last edits [] row ≡ 0
  unfolding edit_fault
  edit-none edits row h e = orelse-second (row_fault edit_kind [] edits row) (last row) h ∙ eqb-true (last row) 0 e

  pub constraint-same : (edits constraints : Rows) (row : Row) → constraint_fault edits constraints row ≡ row_fault (constraint_kind (names_of edits) false) [] constraints row
  unfolding constraint_fault
  constraint-same edits constraints row = refl

  module _ (L : LineManner) (header : List ℕ) where
    -- the tables without fault
    pub own-tables : (edits constraints : Rows) → rows_number (own_manner L header last) edits constraints ≡ 0
        → (table_fault edit_kind [] edits ≡ 0) × (table_fault (constraint_kind (names_of edits) false) [] constraints ≡ 0)
    own-tables edits constraints h =
        let c = rows-clean (own_manner L header last) edits constraints h in (
          clean_is (row_fault edit_kind []) [] edits (clean-by (λ above row. edit_fault last above [] row) (row_fault edit_kind []) [] edits (λ above row e. (edit-fault-none above [] row e).0) c.0),
          clean_is (row_fault (constraint_kind (names_of edits) false) []) [] constraints
              (clean-by (λ above row. constraint_fault edits above row) (row_fault (constraint_kind (names_of edits) false) []) [] constraints (λ above row e. sym (constraint-same edits above row) ∙ e) c.1),
        )

    own-lent : (edits constraints : Rows) → rows_number (own_manner L header last) edits constraints ≡ 0 → lent_fault empty_tables edits constraints ≡ 0
    unfolding join_fault
    own-lent edits constraints h =
        let t = own-tables edits constraints h in
        orelse-second (table_fault edit_kind [] edits) (table_fault (constraint_kind (names_of edits) false) [] constraints) t.0 ∙ t.1

    pub own-few : (edits constraints : Rows) → rows_number (own_manner L header last) edits constraints ≡ 0 → (length edits ≤ edit_limit) × (length constraints ≤ constraint_limit)
    own-few edits constraints h =
        let f = own-lent edits constraints h in
        (joining-editplaces empty_tables (names_of edits) false edits constraints empty-checked f, joining-constraintplaces empty_tables (names_of edits) false edits constraints empty-checked f)

    module _ (V : LawfulLines L) where
      pub own-lawful : (ltb 0 (length header) ≡ true → (rest : List ℕ) → lines (header ++ rest) ≡ header ∷ lines rest) → length header ≤ line_limit → LawfulManner (own_manner L header last)
      own-lawful first short = record {
        lawful-lines = V;
        header-first = first;
        header-short = short;
        edits-first = λ edits constraints row e. (edit-fault-none edits constraints row e).1;
        few = λ edits constraints h. let f = own-few edits constraints h in omega arith;
        checked = λ edits constraints h. lent-checked edits constraints (own-lent edits constraints h);
        edits-back = λ edits constraints h. map-back edit_of edit_row edits (λ x m. edit-back x (accepted-range edit_kind [] edits (own-tables edits constraints h).0 x m));
        constraints-back = λ edits constraints h. map-back constraint_of constraint_row constraints (λ x m. constraint-back x (accepted-range (constraint_kind (names_of edits) false) [] constraints (own-tables edits constraints h).1 x m));
      }

-- the rows of a checked record are without fault
module _ (last : Row → ℕ) (L : LineManner) (header : List ℕ) (W : LawfulManner (own_manner L header last)) (R : Record) (k : Checked R) where
  own-faultless : all (λ row. eqb (last row) 0) (edit_rows R) ≡ true → rows_number (own_manner L header last) (edit_rows R) (constraint_rows R) ≡ 0
  own-faultless n =
      let p = both empty_tables (names_of (edit_rows R)) false (edit_rows R) (constraint_rows R) empty-checked (checked-faultless R k) in
      clean-rows (own_manner L header last) (edit_rows R) (constraint_rows R)
      (clean-with (row_fault edit_kind []) (λ above row. edit_fault last above [] row) (λ row. eqb (last row) 0) [] (edit_rows R) (λ above row e z. edit-none last above row e z) (clean (row_fault edit_kind []) [] (edit_rows R) p.0) n)
      (clean-by (row_fault (constraint_kind (names_of (edit_rows R)) false) []) (λ above row. constraint_fault (edit_rows R) above row) [] (constraint_rows R) (λ above row e. constraint-same last (edit_rows R) above row ∙ e)
      (clean (row_fault (constraint_kind (names_of (edit_rows R)) false) []) [] (constraint_rows R) p.1))

  -- The rows of a record that have lines of their own, and none of whose edits meets the last ground, are read again, and so is the record where it is sound.
  pub own-rows-read : all L.spells_edit (edit_rows R) ≡ true → all L.spells_constraint (constraint_rows R) ≡ true → all (λ row. eqb (last row) 0) (edit_rows R) ≡ true
      → read_rows_in (own_manner L header last) (written_in (own_manner L header last) R) ≡ Accepted R
  own-rows-read f g n = rows-read-in (own_manner L header last) W R (own-faultless n) f g (checked-decoded R k)

  pub own-read-again : all L.spells_edit (edit_rows R) ≡ true → all L.spells_constraint (constraint_rows R) ≡ true → all (λ row. eqb (last row) 0) (edit_rows R) ≡ true
      → sound R ≡ true → read_in (own_manner L header last) (written_in (own_manner L header last) R) ≡ Accepted R
  own-read-again f g n s = read-again-in (own_manner L header last) W R (own-faultless n) f g (checked-decoded R k) s

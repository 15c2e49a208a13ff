-- Two tables that join a stored record: the first fault of both. Assumes nothing.
use mathlib.Core.Path.{◌≡◌, refl, ap, sym, ◌∙◌}
use mathlib.Core.Bool.{Bool, true, false, not, ◌||◌}
use mathlib.Core.List.{List, [], ◌∷◌, ◌++◌, map}
use Prim.Native.Nat.{ℕ, suc, ◌-◌, ◌≤◌, ◌<◌}
use native.Mathlib.Omega.{arith}
use lib.ListN.{length, replicate, take, get_or, drop_of_length-le}
use lib.Seq.{take-append_seam, take-suc, take_all}
use Rattle.std.specs.List.{list_any}
use Rattle.record.specs.declared.Record as declared
use Rattle.lists.specs.Lists.{all, any}
use Rattle.lists.specs.Keyed.{precedes, Ascending}
use Rattle.lists.proofs.Union.{late, late_is}
use Rattle.record.specs.Record.{Record, written, name_of}
use Rattle.record.specs.Stored.{padded, record_of, stored, empty_record, filler_edit, filler_constraint}
use Rattle.lists.proofs.Logic.{all-by}
use Rattle.record_rows.specs.row.Row.{Row, edit_in_range, edit_row}
use Rattle.record_rows.specs.grounds.Ground.{Rows, table_fault, first_fault, misplaced}
use Rattle.record_rows.proofs.grounds.Grounds.{orelse-first, orelse-second, orelse-zero}
use Rattle.record_rows.proofs.grounds.Accepted.{accepted-range}
use Rattle.record_tables.specs.Table.{edit_kind, constraint_kind, edit_rows, constraint_rows, names_of, empty_tables, join_fault, lent_fault, add_edit_fault, add_constraint_fault}
use Rattle.record_tables.specs.Checked.{Checked, OrderedTables, MarksNames}

-- what a stored record holds is the record
pub stored_back : (R : Record) → record_of (stored R) ≡ R
unfolding padded
stored_back R =
    let p = take-append_seam R.edits (replicate (127 - length R.edits) filler_edit) in
    let q = take-append_seam R.constraints (replicate (512 - length R.constraints) filler_constraint) in
    λ i. record { edits = p i; constraints = q i }

pub empty-stored : empty_record ≡ stored empty_tables
unfolding padded
empty-stored = refl

module _ (r : declared.Record) (R : Record) (e : r ≡ stored R) where
  pub held-record : record_of r ≡ R
  held-record = ap record_of e ∙ stored_back R

  pub constraint-count : r.constraint_count ≡ length R.constraints
  constraint-count = ap (λ (x : declared.Record). x.constraint_count) e

  pub held-edits : take r.edit_count r.edits ≡ R.edits
  held-edits = ap (λ (x : Record). x.edits) held-record

  pub held-constraints : take r.constraint_count r.constraints ≡ R.constraints
  held-constraints = ap (λ (x : Record). x.constraints) held-record

  pub stored-ordered : Checked R → OrderedTables r
  stored-ordered k =
      record {
        editplaces = rw (ap (λ (x : declared.Record). x.edit_count) e) k.editplaces;
        constraintplaces = rw (ap (λ (x : declared.Record). x.constraint_count) e) k.constraintplaces;
        editorder = rw held-edits k.editorder;
        constraintorder = rw held-constraints k.constraintorder;
      }

  -- the number of the edits, and of the constraints, as the walks give it
  module _ (k : Checked R) (es : Rows) {n : ℕ} (f : OrderedTables r → n ≡ table_fault edit_kind (edit_rows (record_of r)) es) where
    pub first-table : n ≡ table_fault edit_kind (edit_rows R) es
    first-table = f (stored-ordered k) ∙ ap (λ (x : Record). table_fault edit_kind (edit_rows x) es) held-record

    module _ (cs : Rows) where
      pub lent-first : (n ≡ 0 → ⊥) → n ≡ lent_fault R es cs
      unfolding join_fault
      lent-first z =
          let q : table_fault edit_kind (edit_rows R) es ≡ 0 → ⊥ = λ y. z (first-table ∙ y) in
          first-table ∙ sym (orelse-first (table_fault edit_kind (edit_rows R) es) (table_fault (constraint_kind (names_of es) false) (constraint_rows R) cs) q)

      pub lent-second : n ≡ 0 → (marks : List ℕ) → (all edit_in_range es ≡ true → MarksNames marks (names_of es)) → {m : ℕ}
          → ((names : List ℕ) → MarksNames marks names → OrderedTables r → m ≡ table_fault (constraint_kind names false) (constraint_rows (record_of r)) cs) → m ≡ lent_fault R es cs
      unfolding join_fault
      lent-second z marks s g =
          let q : table_fault edit_kind (edit_rows R) es ≡ 0 = sym first-table ∙ z in
          let good : all edit_in_range es ≡ true = all-by edit_in_range es (accepted-range edit_kind (edit_rows R) es q) in
          g (names_of es) (s good) (stored-ordered k)
          ∙ ap (λ (x : Record). table_fault (constraint_kind (names_of es) false) (constraint_rows x) cs) held-record
          ∙ sym (orelse-second (table_fault edit_kind (edit_rows R) es) (table_fault (constraint_kind (names_of es) false) (constraint_rows R) cs) q)

  -- one row that is added
  pub add-edit : Checked R → (row : Row) {n : ℕ} → (OrderedTables r → n ≡ table_fault edit_kind (edit_rows (record_of r)) (row ∷ [])) → n ≡ add_edit_fault R row
  unfolding join_fault first_fault
  add-edit k row f = first-table k (row ∷ []) f ∙ sym (orelse-zero (table_fault edit_kind (edit_rows R) (row ∷ [])))

  pub add-constraint : (k : Checked R) (row : Row) (marks : List ℕ) → (all (λ e. edit_in_range (edit_row e)) (record_of r).edits ≡ true → MarksNames marks (map name_of (record_of r).edits)) → {m : ℕ}
      → ((names : List ℕ) → MarksNames marks names → OrderedTables r → m ≡ table_fault (constraint_kind names true) (constraint_rows (record_of r)) (row ∷ [])) → m ≡ add_constraint_fault R row
  unfolding join_fault first_fault written
  add-constraint k row marks s g =
      let named : MarksNames marks (map name_of (record_of r).edits) = s (rw held-edits k.editrange) in
      g (map name_of (record_of r).edits) named (stored-ordered k) ∙ ap (λ (x : Record). table_fault (constraint_kind (written x) true) (constraint_rows x) (row ∷ [])) held-record

-- some row of a table, by the library's test of a list
pub any-listed : {A : Type 0} (p : A → Bool) (l : List A) → list_any p l ≡ any p l
unfolding any
any-listed p [] = refl
any-listed p (x ∷ l) = ap (λ b. p x || b) (any-listed p l)

-- a row below the row before it
module _ (k : ℕ) (t : Rows) (row : Row) where
  pub follows-none : length t < 1 → not true ≡ misplaced k t row
  unfolding misplaced any
  follows-none h = let e : t ≡ [] = drop_of_length-le t {i = 0} (omega arith) in rw e

  pub follows-last : 1 ≤ length t → {x : Row} → x ≡ get_or t (length t - 1) x → {b : Bool} → b ≡ precedes (take k x) (take k row) → Ascending (take k) t → not b ≡ misplaced k t row
  unfolding misplaced
  follows-last h {x} e f a =
      let n = length t - 1 in
      let s : t ≡ take n t ++ (x ∷ []) = sym (take_all (suc n) t (omega arith)) ∙ take-suc t n x (omega arith) ∙ rw (← e) in
      ap not f ∙ sym (ap (λ (l : Rows). late (take k) l (take k row)) s ∙ late_is (take k) (take n t) x (take k row) (rw s at a))

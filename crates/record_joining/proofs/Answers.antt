-- The answers of the calls, from what the check and the union give. Assumes nothing.
use mathlib.Core.Path.{◌≡◌, ap, sym, ◌∙◌}
use mathlib.Core.Bool.{Bool, true, false}
use mathlib.Core.List.{List, [], ◌∷◌, map}
use Prim.Native.Nat.{ℕ, ◌≤◌, ◌<◌}
use native.Mathlib.Omega.{arith}
use lib.ListN.{length, take, length-map}
use lib.Seq.{take_all}
use Rattle.std.specs.Prelude.{Result, Ok, Err}
use Rattle.refusals.specs.declared.Refusal.{Refusal}
use Rattle.refusals.specs.Numbers.{Gives}
use Rattle.record.specs.declared.Record as declared
use Rattle.record.specs.declared.Constraint.{Constraint}
use Rattle.record.specs.Record.{Record, written}
use Rattle.record.specs.Stored.{padded, stored, record_of}
use Rattle.record.proofs.Padded.{take-padded}
use Rattle.lists.specs.Keyed.{Ascending, inserted, united}
use Rattle.record_rows.specs.row.Row.{Row, constraint_of}
use Rattle.record_rows.specs.grounds.Ground.{Rows}
use Rattle.record_tables.specs.Table.{edit_rows, constraint_rows, decoded, empty_tables, join_fault, names_of, lent_fault, add_constraint_fault, record_join_fault, edit_key, constraint_key, unite}
use Rattle.record_tables.specs.Checked.{Checked}
use Rattle.record_tables.proofs.Records.{empty-checked, joining-edits, joining-constraints, joined-editplaces, joined-constraintplaces, joining-editplaces, joining-constraintplaces, record-decoded}
use Rattle.record_tables.proofs.Tables.{stored_back}
use Rattle.record_union.specs.Union.{Unites}
use Rattle.record_joining.specs.declared.insertion.Constraints.{Constraints}
use Rattle.record_joining.specs.insertion.Insertion.{table_of}
use Rattle.record_joining.proofs.insertion.Tables.{too-long}

-- what the union of two records gives
abbrev Unions : declared.Record → declared.Record → declared.Record → Type 0
Unions joined joining q =
    (R S : Record) → joined ≡ stored R → joining ≡ stored S → Unites edit_key 127 R.edits S.edits → Unites constraint_key 512 R.constraints S.constraints → q ≡ stored (unite R S)

module _ (R : Record) (known : List ℕ) (adding : Bool) (es cs : Rows) (k : Checked R) (e : 0 ≡ join_fault R known adding es cs) where
  -- two tables that join a record, united with it
  pub union-is : {joined joining q : declared.Record} → joined ≡ stored R → (length es ≤ 127 → length cs ≤ 512 → joining ≡ stored (decoded es cs)) → Unions joined joining q
      → (0 ≡ join_fault R known adding es cs) × (q ≡ stored (unite R (decoded es cs)))
  union-is f g u =
      let h : join_fault R known adding es cs ≡ 0 = sym e in (
        e,
        u R (decoded es cs) f (g (joining-editplaces R known adding es cs k h) (joining-constraintplaces R known adding es cs k h))
            (record { own_order = k.editorder; joining_order = joining-edits R known adding es cs k h; places = joined-editplaces R known adding es cs k h })
            (record { own_order = k.constraintorder; joining_order = joining-constraints R known adding es cs k h; places = joined-constraintplaces R known adding es cs k h }),
      )

-- one constraint that joins a record's table
module _ (R : Record) (row : Row) (k : Checked R) (e : 0 ≡ add_constraint_fault R row) {joined : declared.Record} (f : joined ≡ stored R) {table : Constraints} {more : Result Constraints Refusal} {c : Constraint} (o : c ≡ constraint_of row)
    (t : (S : Record) → joined ≡ stored S → length S.constraints ≤ 512 → Ok table ≡ table_of S.constraints)
    (i : (l : List Constraint) → Ok table ≡ table_of l → Ascending constraint_key l → more ≡ table_of (inserted constraint_key c l)) where
  abbrev list : List Constraint
  list = inserted constraint_key (constraint_of row) R.constraints

  list-places : length list ≤ 512
  unfolding united
  list-places = joined-constraintplaces R (written R) true [] (row ∷ []) k (sym e)

  more-is : more ≡ table_of list
  more-is = i R.constraints (t R f k.constraintplaces) k.constraintorder ∙ ap (λ (d : Constraint). table_of (inserted constraint_key d R.constraints)) o

  pub inserted-is : {w : Constraints} {q : declared.Record} → more ≡ Ok w → ((S : Record) (l : List Constraint) → joined ≡ stored S → Ok w ≡ table_of l → q ≡ stored (record { edits = S.edits; constraints = l }))
      → (0 ≡ add_constraint_fault R row) × (q ≡ stored (unite R (decoded [] (row ∷ []))))
  unfolding united unite
  inserted-is g w = (e, w R list f (sym g ∙ more-is))

  pub inserted-not : {r : Refusal} → more ≡ Err r → ⊥
  inserted-not g = let n : 512 < length list = too-long list (sym g ∙ more-is) in omega (arith, n, list-places)

-- a lent record by itself
pub lent_is : (es cs : Rows) → 0 ≡ lent_fault empty_tables es cs → {q : declared.Record} → (length es ≤ 127 → length cs ≤ 512 → q ≡ stored (decoded es cs))
    → (0 ≡ lent_fault empty_tables es cs) × (q ≡ stored (decoded es cs))
lent_is es cs e g =
    (e, g (joining-editplaces empty_tables (names_of es) false es cs empty-checked (sym e)) (joining-constraintplaces empty_tables (names_of es) false es cs empty-checked (sym e)))

-- the rows of the elements that a record has, out of their array
pub rows_back : {A B : Type 0} (f : A → B) (n : ℕ) (d : B) {own held : List A} {rows : List B} → own ≡ held → rows ≡ padded n d (map f own) → take (length own) rows ≡ map f held
rows_back f n d {own} e g =
    let l : length (map f own) ≡ length own = length-map own f in
    rw g (take-padded n d (length own) (map f own) (omega arith) ∙ take_all (length own) (map f own) (omega arith) ∙ ap (map f) e)

-- the rows of a record join a record
module _ (R S : Record) (k : Checked R) where
  record-gives : (q : Result declared.Record Refusal) → Gives (record_join_fault R S) (stored (unite R (decoded (edit_rows S) (constraint_rows S)))) q → Gives (record_join_fault R S) (stored (unite R S)) q
  record-gives (Ok y) g = let d = record-decoded R S k (sym g.0) in (g.0, rw d at g.1)
  record-gives (Err r) g = (g.0, tt)

  pub joined-record-is : (joining : declared.Record) → joining ≡ stored S → (es cs : Rows) → es ≡ edit_rows (record_of joining) → cs ≡ constraint_rows (record_of joining) → (q : Result declared.Record Refusal)
      → Gives (lent_fault R es cs) (stored (unite R (decoded es cs))) q → Gives (record_join_fault R S) (stored (unite R S)) q
  joined-record-is joining f es cs g h q e =
      let held : record_of joining ≡ S = ap record_of f ∙ stored_back S in
      let a : es ≡ edit_rows S = g ∙ ap edit_rows held in
      let b : cs ≡ constraint_rows S = h ∙ ap constraint_rows held in
      record-gives q (rw (a, b) at e)

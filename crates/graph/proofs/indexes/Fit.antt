-- Checked tables are what a judgement asks for. Assumes nothing.
use mathlib.Core.Path.{◌≡◌, refl}
use mathlib.Core.Bool.{Bool, true, false, not, ◌&&◌}
use mathlib.Core.List.{[], ◌∷◌}
use Prim.Native.Nat.{ℕ, ◌<◌}
use native.Mathlib.Omega.{arith}
use lib.Dec.{eqb, ltb}
use borrow.Author.Tests.{eqb-false, ltb-true, ltb-false, not-true}
use Rattle.record.specs.declared.Edit.{Edit}
use Rattle.record.specs.Record.{Record, written, names}
use Rattle.lists.proofs.Lists.{and_l, and_r, or-no-l, or-no-r, cons-by}
use Rattle.record.proofs.Records.{all-constraints}
use Rattle.lists.proofs.Logic as logic
use Rattle.record_rows.proofs.row.Cells.{name-small, edit-in-range}
use Rattle.record_rows.specs.row.Row.{is_name, is_side, edit_in_range, constraint_in_range, edit_row, constraint_row}
use Rattle.record_tables.specs.Table.{pair_not_allowed}
use Rattle.record_tables.specs.Checked.{Checked}
use Rattle.record_tables.proofs.Unions.{mem-by}
use Rattle.record_tables.proofs.Records.{checked-wellformed, checked-ascending}
use Rattle.graph.specs.indexes.Fit.{Fit}

edit-name : (e : Edit) → edit_in_range (edit_row e) ≡ true → is_name e.name ≡ true
unfolding edit_row
edit-name e h = (edit-in-range (edit_row e) h).name

rule-low : (a k b : ℕ) → constraint_in_range (a ∷ k ∷ b ∷ []) ≡ true → k < 3
unfolding constraint_in_range
rule-low a k b h = ltb-true k 3 (and_l _ _ (and_r (is_side a) _ h))

and-true : (b : Bool) → (b && true) ≡ false → b ≡ false
and-true true h = h
and-true false h = refl

pair-lower : (a b : ℕ) → pair_not_allowed a 2 b ≡ false → a < b
unfolding pair_not_allowed
pair-lower a b h =
    let u = or-no-r (eqb a 0) _ h in
    let v = or-no-r (eqb b 0 && not (eqb 2 1)) _ u in
    let same : eqb a b ≡ false = and-true (eqb a b) (or-no-l (eqb a b && not (eqb 2 0)) _ v) in
    let higher : ltb b a ≡ false = or-no-r (eqb a b && not (eqb 2 0)) _ v in
    let n = eqb-false a b same in
    omega (arith, ltb-false, n)

pub checked-fit : (R : Record) → Checked R → Fit R
unfolding written constraint_row names
checked-fit R k = record {
  edits = k.editplaces;
  constraints = k.constraintplaces;
  formed = checked-wellformed R k;
  ascends = checked-ascending R k;
  low = λ x i. cons-by x 0 (written R) i (λ e. omega arith)
      (λ j. mem-by x R.edits j (λ e m q. rw q (name-small e.name (edit-name e (logic.all-has (λ e. edit_in_range (edit_row e)) R.edits k.editrange e m)))));
  rules = λ a r b h. rule-low a r b (all-constraints (λ a r b. constraint_in_range (a ∷ r ∷ b ∷ [])) R.constraints k.constraintrange a r b h);
  paired = λ a b h. pair-lower a b (not-true _ (all-constraints (λ a r b. not (pair_not_allowed a r b)) R.constraints k.pairs a 2 b h));
}

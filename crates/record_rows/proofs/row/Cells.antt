-- Rows in range: their bounds, and that decoding and the row of what is decoded are inverse. Assumes nothing.
use mathlib.Core.Path.{◌≡◌, refl, ap, sym, ◌∙◌}
use mathlib.Core.Bool.{Bool, true, false, cond, ◌&&◌, and_assoc, and-false}
use mathlib.Core.Logic.{◌⊎◌, inl, inr}
use mathlib.Core.List.{[], ◌∷◌}
use Prim.Native.Nat.{ℕ, zero, suc, ◌+◌, ◌≤◌, ◌<◌, ◌/◌, ◌%◌}
use native.Mathlib.Omega.{arith}
use native.Mathlib.Nat.{div-lt_iff_lt-mul}
use borrow.Author.Tests.{eqb-true, eq-eqb, leb-true, ltb-true, lt-ltb, le-ltb}
use lib.Dec.{leb, ltb, eqb}
use lib.ListN.{length, drop, drop_of_length-le}
use lib.Seq.{drop-cons}
use Rattle.std.specs.Prelude.{Ok, Err, Option, Some, None, is_some, unwrap_or, option_map}
use Rattle.std.proofs.lemmas.Option.{same_Some, none-some, cond_some}
use Rattle.refusals.specs.declared.Refusal.{Refusal}
use Rattle.refusals.specs.declared.Refusal.TheVariants.{OutOfRange}
use Rattle.lists.proofs.Lists.{by, clash, and_l, and_r}
use Rattle.record.specs.declared.Field.{Field}
use Rattle.record.specs.declared.Field.TheVariants.{Id, Size, Erase, Page}
use Rattle.record.specs.declared.Body.{Body}
use Rattle.record.specs.declared.Body.TheVariants.{Insert, Set, Remove}
use Rattle.record.specs.declared.Edit.{Edit}
use Rattle.record.specs.declared.Constraint.{Constraint}
use Rattle.record.specs.Stored.{filler_edit, filler_constraint}
pub use Rattle.record_rows.specs.element.Laws.{edit-wide, constraint-wide}
use Rattle.record_rows.specs.row.Row.{Row, cell, edit_width, name_cell, kind_cell, place_cell, field_cell, value_cell, is_name, place_limit, field_of, body_of, edit_with, decoded_edit, edit_in_range, edit_of, is_side, constraint_in_range, constraint_of, constraint_width, rule_limit, field_number, body_cells, edit_row, constraint_row}

-- a name
pub name-small : (n : ℕ) → is_name n ≡ true → n < 2304
unfolding is_name
name-small n e =
    let f : n / 256 < 9 = let h : n / 256 ≤ 8 = leb-true (n / 256) 8 (and_l (leb (n / 256) 8) (leb 1 (n % 256)) (and_r (leb 1 (n / 256)) (leb (n / 256) 8 && leb 1 (n % 256)) e)) in omega arith in
    (div-lt_iff_lt-mul {k = 256} {x = n} {y = 9} (omega arith)).0 f

-- a number that is taken as a name, and one that is refused
module _ (n : ℕ) where
  pub name-taken : {x : ℕ} → Ok x ≡ cond (is_name n) (Ok n) (Err OutOfRange) → (is_name n ≡ true) × (x ≡ n)
  name-taken {x} e =
      by (is_name n) (λ t. let q : Ok x ≡ Ok n = rw t at e in let y : x ≡ n = cc in (t, y))
      (λ f. let q : Ok x ≡ Err OutOfRange = rw f at e in let y : ⊥ = cc in absurd y)

  pub name-refused : {r : Refusal} → Err r ≡ cond (is_name n) (Ok n) (Err OutOfRange) → (is_name n ≡ false) × (r ≡ OutOfRange)
  name-refused {r} e =
      by (is_name n) (λ t. let q : Err r ≡ Ok n = rw t at e in let y : ⊥ = cc in absurd y)
      (λ f. let q : Err r ≡ Err OutOfRange = rw f at e in let y : r ≡ OutOfRange = cc in (f, y))

pub name-not-zero : (n : ℕ) → is_name n ≡ true → n ≡ 0 → ⊥
unfolding is_name
name-not-zero n h e = clash (rw e at h) refl

-- a row of its width, from the tests that the code makes
pub row-in-range : (row : Row) (width : ℕ) (second : Bool) {first rest f g : Bool} → length row ≡ width → f ≡ first → g ≡ rest → ((f && second) && g) ≡ (eqb (length row) width && (first && (second && rest)))
row-in-range row width second {f = f} {g = g} w e p = rw (eq-eqb (length row) width w, ← e, ← p) (and_assoc f second g)

tests-pass : (a b c d : Bool) → (a && (b && (c && d))) ≡ true → (a ≡ true) × (b ≡ true) × (c ≡ true) × (d ≡ true)
tests-pass a b c d h =
    let p = and_r a (b && (c && d)) h in
    let q = and_r b (c && d) p in
    (and_l a (b && (c && d)) h, and_l b (c && d) p, and_l c d q, and_r c d q)

under-test : {A : Type 0} (c : Bool) (o : Option A) → is_some (cond c o None) ≡ true → (c ≡ true) × (is_some o ≡ true)
under-test true o h = (refl, h)
under-test false o h = clash h refl

-- the tests of a row beside its body, and its body
abbrev is_placed : Row → Bool
is_placed row = eqb (length row) edit_width && (is_name (name_cell row) && ltb (place_cell row) place_limit)

abbrev row_body : Row → Option Body
row_body row = body_of (kind_cell row) (place_cell row) (field_cell row) (value_cell row)

pub record EditInRange (row : Row) : Type 0 where
  pub wide : length row ≡ edit_width
  pub name : is_name (name_cell row) ≡ true
  pub place : place_cell row < place_limit
  pub body : Body
  pub bodied : row_body row ≡ Some body
  pub decoded : edit_of row ≡ edit_with (name_cell row) body

pub edit-in-range : (row : Row) → edit_in_range row ≡ true → EditInRange row
unfolding edit_in_range edit_of decoded_edit
edit-in-range row h = go (row_body row) refl (under-test (is_placed row) (option_map (edit_with (name_cell row)) (row_body row)) h)
  where
    go : (o : Option Body) → row_body row ≡ o → (is_placed row ≡ true) × (is_some (option_map (edit_with (name_cell row)) o) ≡ true) → EditInRange row
    go None e k = clash k.1 refl
    go (Some b) e k =
        let p = and_r (eqb (length row) edit_width) _ k.0 in
        record {
          wide = eqb-true (length row) edit_width (and_l _ _ k.0);
          name = and_l _ _ p;
          place = ltb-true (place_cell row) place_limit (and_r (is_name (name_cell row)) _ p);
          body = b;
          bodied = e;
          decoded = rw (k.0, e);
        }

pub edit-bounds : (row : Row) {b : Bool} → b ≡ edit_in_range row → b ≡ true → (cell row 0 < 2304) × (cell row 2 < 64)
edit-bounds row p q = let r = edit-in-range row (sym p ∙ q) in (name-small (cell row 0) r.name, r.place)

pub edit-filler : (row : Row) {b : Bool} → b ≡ edit_in_range row → b ≡ false → filler_edit ≡ edit_of row
unfolding edit_in_range edit_of
edit-filler row p q = go (decoded_edit row) (sym p ∙ q)
  where
    go : (o : Option Edit) → is_some o ≡ false → filler_edit ≡ unwrap_or o filler_edit
    go None h = refl
    go (Some e) h = clash refl h

-- the edit of a row, from the tests that the code makes
module _ (row : Row) {named : Bool} (n : named ≡ is_name (name_cell row)) where
  pub decoded-out : (named ≡ false) ⊎ ((named ≡ true) × (place_limit ≤ place_cell row)) → None ≡ decoded_edit row
  unfolding decoded_edit
  decoded-out (inl f) = rw (← n, f, and-false (eqb (length row) edit_width))
  decoded-out (inr p) = rw (le-ltb (place_cell row) place_limit p.1, and-false (is_name (name_cell row)), and-false (eqb (length row) edit_width))

  module _ {o : Option Body} (e : o ≡ row_body row) where
    pub decoded-none : o ≡ None → None ≡ decoded_edit row
    unfolding decoded_edit
    decoded-none f = rw (← e, f) (none (is_placed row))
      where
        none : (c : Bool) → ◌≡◌ {A = Option Edit} None (cond c None None)
        none true = refl
        none false = refl

    pub decoded-some : length row ≡ edit_width → named ≡ true → place_cell row < place_limit → {b : Body} → o ≡ Some b → Some (edit_with (name_cell row) b) ≡ decoded_edit row
    unfolding decoded_edit
    decoded-some w t p f = rw (eq-eqb (length row) edit_width w, ← n, t, lt-ltb (place_cell row) place_limit p, ← e, f)

-- a side, and a constraint in range
side-small : (n : ℕ) → is_side n ≡ true → n < 2304
unfolding is_side
side-small n h =
    by (eqb n 0) (λ (e : eqb n 0 ≡ true). omega (arith, eqb-true n 0 e)) (λ (e : eqb n 0 ≡ false). name-small n (rw e at h))

pub record ConstraintInRange (row : Row) : Type 0 where
  pub wide : length row ≡ constraint_width
  pub left : is_side (cell row 0) ≡ true
  pub rule : cell row 1 < rule_limit
  pub right : is_side (cell row 2) ≡ true

pub constraint-in-range : (row : Row) → constraint_in_range row ≡ true → ConstraintInRange row
unfolding constraint_in_range
constraint-in-range row h =
    let t = tests-pass (eqb (length row) constraint_width) (is_side (cell row 0)) (ltb (cell row 1) rule_limit) (is_side (cell row 2)) h in
    record { wide = eqb-true (length row) constraint_width t.0; left = t.1; rule = ltb-true (cell row 1) rule_limit t.2; right = t.3 }

pub constraint-bounds : (row : Row) {b : Bool} → b ≡ constraint_in_range row → b ≡ true → (cell row 0 < 2304) × (cell row 1 < 3) × (cell row 2 < 2304)
constraint-bounds row p q =
    let r = constraint-in-range row (sym p ∙ q) in
    (side-small (cell row 0) r.left, r.rule, side-small (cell row 2) r.right)

pub constraint-filler : (row : Row) {b : Bool} → b ≡ constraint_in_range row → b ≡ false → filler_constraint ≡ constraint_of row
unfolding constraint_of
constraint-filler row p q = let e : constraint_in_range row ≡ false = sym p ∙ q in rw e

pub constraint-decoded : (row : Row) {b : Bool} → b ≡ constraint_in_range row → b ≡ true → record { left = cell row 0; rule = cell row 1; right = cell row 2 } ≡ constraint_of row
unfolding constraint_of
constraint-decoded row p q = let e : constraint_in_range row ≡ true = sym p ∙ q in rw e

-- a row by its cells
unfoldable cells_from : Row → ℕ → ℕ → Row
cells_from row i zero = []
cells_from row i (suc n) = cell row i ∷ cells_from row (suc i) n

row-cells : (row : Row) (n i : ℕ) → i + n ≡ length row → drop i row ≡ cells_from row i n
unfolding cells_from
row-cells row zero i h = drop_of_length-le row {i = i} (omega arith)
row-cells row (suc n) i h = drop-cons row i 0 (omega arith) ∙ ap (λ (l : Row). cell row i ∷ l) (row-cells row n (suc i) (omega arith))

-- a row in range is the row of what it is decoded to
field_back : (n : ℕ) {f : Field} → field_of n ≡ Some f → field_number f ≡ n
field_back zero e = ap field_number (sym (same_Some _ _ e))
field_back (suc zero) e = ap field_number (sym (same_Some _ _ e))
field_back (suc (suc zero)) e = ap field_number (sym (same_Some _ _ e))
field_back (suc (suc (suc zero))) e = ap field_number (sym (same_Some _ _ e))
field_back (suc (suc (suc (suc n)))) e = absurd (none-some _ e)

unused-back : (k p f v : ℕ) → (eqb f 0 && eqb v 0) ≡ true → ◌≡◌ {A = Row} (k ∷ p ∷ 0 ∷ 0 ∷ []) (k ∷ p ∷ f ∷ v ∷ [])
unused-back k p f v h =
    let x : f ≡ 0 = eqb-true f 0 (and_l (eqb f 0) (eqb v 0) h) in
    let y : v ≡ 0 = eqb-true v 0 (and_r (eqb f 0) (eqb v 0) h) in
    rw (x, y)

set_back : (n p v : ℕ) (o : Option Field) → o ≡ field_of n → {b : Body} → option_map (λ f. Set p f v) o ≡ Some b → body_cells b ≡ 1 ∷ p ∷ n ∷ v ∷ []
set_back n p v None e g = absurd (none-some _ g)
set_back n p v (Some f) e g = let q : field_number f ≡ n = field_back n (sym e) in ap body_cells (sym (same_Some _ _ g)) ∙ rw q

body_back : (k p f v : ℕ) {b : Body} → body_of k p f v ≡ Some b → body_cells b ≡ k ∷ p ∷ f ∷ v ∷ []
body_back zero p f v e = let s = cond_some (eqb f 0 && eqb v 0) _ _ e in ap body_cells (sym s.1) ∙ unused-back 0 p f v s.0
body_back (suc zero) p f v e = set_back f p v (field_of f) refl e
body_back (suc (suc zero)) p f v e = let s = cond_some (eqb f 0 && eqb v 0) _ _ e in ap body_cells (sym s.1) ∙ unused-back 2 p f v s.0
body_back (suc (suc (suc k))) p f v e = absurd (none-some _ e)

pub edit-back : (row : Row) → edit_in_range row ≡ true → edit_row (edit_of row) ≡ row
unfolding edit_row cells_from
edit-back row h =
    let r = edit-in-range row h in
    ap edit_row r.decoded
    ∙ ap (λ (l : Row). name_cell row ∷ l) (body_back (kind_cell row) (place_cell row) (field_cell row) (value_cell row) r.bodied)
    ∙ sym (row-cells row edit_width 0 (sym r.wide))

pub constraint-back : (row : Row) → constraint_in_range row ≡ true → constraint_row (constraint_of row) ≡ row
unfolding constraint_row cells_from
constraint-back row h = ap constraint_row (sym (constraint-decoded row (sym h) refl)) ∙ sym (row-cells row constraint_width 0 (sym (constraint-in-range row h).wide))

-- and what is decoded from the row of an edit or constraint, in range, is that
pub field-again : (f : Field) → field_of (field_number f) ≡ Some f
field-again Id = refl
field-again Size = refl
field-again Erase = refl
field-again Page = refl

body-again : (n : ℕ) (b : Body) → body_of (kind_cell (n ∷ body_cells b)) (place_cell (n ∷ body_cells b)) (field_cell (n ∷ body_cells b)) (value_cell (n ∷ body_cells b)) ≡ Some b
body-again n (Insert p) = refl
body-again n (Set p f v) = rw (field-again f)
body-again n (Remove p) = refl

pub edit-again : (e : Edit) → edit_in_range (edit_row e) ≡ true → edit_of (edit_row e) ≡ e
unfolding edit_row
edit-again e h = let r = edit-in-range (edit_row e) h in r.decoded ∙ ap (edit_with e.name) (same_Some _ _ (sym r.bodied ∙ body-again e.name e.body))

pub constraint-again : (c : Constraint) → constraint_in_range (constraint_row c) ≡ true → constraint_of (constraint_row c) ≡ c
unfolding constraint_row
constraint-again c h = sym (constraint-decoded (constraint_row c) (sym h) refl)

-- The linked rows of a record's constraints are those of its three rules. Assumes nothing.
use mathlib.Core.Path.{◌≡◌, refl, sym, ap, ◌∙◌}
use mathlib.Core.Bool.{true}
use mathlib.Core.List.{List, [], ◌∷◌, map}
use Prim.Native.Nat.{ℕ, zero, suc, ◌+◌, ◌*◌, ◌<◌}
use native.Mathlib.Omega.{arith}
use lib.ListN.{length, get_or, length-map}
use Rattle.record.specs.declared.Constraint.{Constraint}
use Rattle.lists.specs.Lists.{any, index_of}
use Rattle.record.specs.Record.{Record, names, is, has}
use Rattle.record.specs.Stored.{filler_constraint}
use Rattle.lists.proofs.Lists.{clash, or-by, mem_index, get_or-mapped}
use Rattle.lists.proofs.Arrays.{get_or-any}
use Rattle.record.proofs.Records as records
pub use Rattle.record.proofs.Records.{left-known, right-known}
use Rattle.graph.specs.links.Marks.{name_at, place_in}
use Rattle.graph.specs.links.Links.{left_at, with_row, Leads}
use Rattle.graph.proofs.links.Names.{get_or-place, ascending-distinct, place-known}
use Rattle.graph.proofs.links.Links.{Linking, linking-step, linking-end}
use Rattle.graph.specs.links.Resolved.{Resolved}
use Rattle.graph.specs.indexes.Fit.{Fit}
use Rattle.graph.specs.indexes.Indexed.{Indexed}
use Rattle.graph.proofs.indexes.Tables.{names-few}

-- the key of a constraint, and of all
unfoldable pub key_of : Record → Constraint → ℕ
key_of R c = c.rule * 128 + place_in (names R) c.right

unfoldable pub keys_of : Record → List ℕ
keys_of R = map (key_of R) R.constraints

-- the index of its left end, and of all
abbrev left_of : Record → Constraint → ℕ
left_of R c = place_in (names R) c.left

unfoldable pub lefts_of : Record → List ℕ
lefts_of R = map (left_of R) R.constraints

pub keys_length : (R : Record) → length (keys_of R) ≡ length R.constraints
unfolding keys_of
keys_length R = length-map R.constraints (key_of R)

pub keys-at : (R : Record) (i : ℕ) (d : Constraint) → i < length R.constraints → get_or (keys_of R) i 0 ≡ key_of R (get_or R.constraints i d)
unfolding keys_of
keys-at R i d h = get_or-mapped (key_of R) R.constraints i d 0 h

-- what stands at a place is a constraint of the list, and each constraint stands at a place
pub has-at : (l : List Constraint) (i : ℕ) (d : Constraint) → i < length l → has (get_or l i d).left (get_or l i d).rule (get_or l i d).right l ≡ true
has-at [] i d h = absurd (omega arith)
has-at (c ∷ l) zero d h = records.has-head c l
has-at (c ∷ l) (suc i) d h = records.has-tail _ _ _ c l (has-at l i d (omega arith))

pub at_has {ℓ} : {P : Type ℓ} (l : List Constraint) (d : Constraint) (a k b : ℕ) → has a k b l ≡ true
    → ((i : ℕ) → i < length l → (get_or l i d).left ≡ a → (get_or l i d).rule ≡ k → (get_or l i d).right ≡ b → P) → P
unfolding has any
at_has [] d a k b h f = clash h refl
at_has (c ∷ l) d a k b h f =
    or-by (is a k b c) (has a k b l) h
    (λ e. records.constraint-by a k b c e (λ x y z. f 0 (omega arith) x y z))
    (λ e. at_has l d a k b e (λ i u. f (suc i) (omega arith)))

module _ (R : Record) (f : Fit R) (rows : List ℕ) (j : ℕ) (q : j ≡ length R.constraints) (g : Linking (keys_of R) (lefts_of R) rows j) where
  left-at : (i : ℕ) → i < length R.constraints → left_at rows i ≡ place_in (names R) (get_or R.constraints i filler_constraint).left
  unfolding lefts_of
  left-at i h = g.left i (omega arith) ∙ get_or-mapped (left_of R) R.constraints i filler_constraint 0 h

  -- the row of a key: its rule, its right edit, its left edit
  record Row (i k y : ℕ) : Type 0 where
    pub left : left_at rows i < length (names R)
    pub holds : has (name_at R (left_at rows i)) k (name_at R y) R.constraints ≡ true

  row_at : (i k y : ℕ) → i < length (keys_of R) → y < length (names R) → get_or (keys_of R) i 0 ≡ k * 128 + y → Row i k y
  unfolding key_of
  row_at i k y h l e =
      let u : i < length R.constraints = omega (arith, keys_length R) in
      let c = get_or R.constraints i filler_constraint in
      let s = has-at R.constraints i filler_constraint u in
      let a = left-known f.formed _ _ _ s in
      let b = right-known f.formed _ _ _ s in
      let p : c.rule * 128 + index_of c.right (names R) ≡ k * 128 + y =
      ap (λ v. c.rule * 128 + v) (sym (place-known c.right (names R) b)) ∙ sym (keys-at R i filler_constraint u) ∙ e in
      let m : index_of c.right (names R) < 128 = omega (arith, mem_index c.right (names R) b, names-few R f) in
      let n : y < 128 = omega (arith, names-few R f) in
      let rule-is : c.rule ≡ k = omega arith in
      let right_is : index_of c.right (names R) ≡ y = omega arith in
      let left_is : left_at rows i ≡ index_of c.left (names R) = left-at i u ∙ place-known c.left (names R) a in
      record {
        left = omega (arith, mem_index c.left (names R) a);
        holds = rw (left_is, get_or-place c.left (names R) a, ← right_is, get_or-place c.right (names R) b, ← rule-is) s;
      }

  leads-rule : (k : ℕ) → Leads (λ a b. has a k b R.constraints) R (k * 128) rows
  unfolding key_of
  leads-rule k = record {
    apart = ascending-distinct (names R) f.ascends;
    few = names-few R f;
    keys = keys_of R;
    linked = linking-end (keys_of R) (lefts_of R) rows j (q ∙ sym (keys_length R)) g;
    known = λ i y h l e. (row_at i k y h l e).left;
    holds = λ i y h l e. (row_at i k y h l e).holds;
    row_of = λ a b h. at_has R.constraints filler_constraint a k b h (λ i u x y z. record {
      row = i;
      low = omega (arith, keys_length R);
      left-known = left-known f.formed a k b h;
      right-known = right-known f.formed a k b h;
      left = left-at i u ∙ ap (place_in (names R)) x ∙ place-known a (names R) (left-known f.formed a k b h);
      key = keys-at R i filler_constraint u ∙ rw (y, z, place-known b (names R) (right-known f.formed a k b h));
    });
  }

  pub resolving-end : Resolved R rows
  resolving-end = record { formed = f.formed; paired = f.paired; notafters = leads-rule 0; enablers = leads-rule 1; pairs = leads-rule 2 }

-- one turn of the loop that links the constraints: the row's key and its left index as the table gives them
module _ (R : Record) (f : Fit R) (table rows : List ℕ) (l : List Constraint) (j : ℕ) (d : Constraint) (key right left : ℕ)
    (t : Indexed R table) (e : l ≡ R.constraints) (h : j < length l) (u : right ≡ get_or table (get_or l j d).right 0)
    (v : left ≡ get_or table (get_or l j d).left 0) (k : (get_or l j d).rule < 3 → key ≡ (get_or l j d).rule * 128 + right) where
  within : j < length R.constraints
  within = omega (arith, ap length e)

  alike : get_or l j d ≡ get_or R.constraints j filler_constraint
  alike = ap (λ z. get_or z j d) e ∙ get_or-any R.constraints j d filler_constraint within

  keyed : key ≡ key_of R (get_or R.constraints j filler_constraint)
  unfolding key_of
  keyed =
      let low : (get_or l j d).rule < 3 = rw alike (f.rules _ _ _ (has-at R.constraints j filler_constraint within)) in
      k low ∙ rw (u, t (get_or l j d).right, alike)

  pub row-turn : length rows ≡ 2432 → j < 1024 → key < 384 → Linking (keys_of R) (lefts_of R) rows j → Linking (keys_of R) (lefts_of R) (with_row rows j key left) (j + 1)
  unfolding lefts_of
  row-turn a b m =
      linking-step (keys_of R) (lefts_of R) rows j key left a b m (keys-at R j filler_constraint within ∙ sym keyed)
      (get_or-mapped (left_of R) R.constraints j filler_constraint 0 within ∙ sym (v ∙ t (get_or l j d).left ∙ ap (left_of R) alike))

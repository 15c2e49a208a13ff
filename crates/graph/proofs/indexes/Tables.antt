-- What stands in a stored record, and the index of each name. Assumes nothing.
use mathlib.Core.Path.{◌≡◌, sym, ap, ◌∙◌}
use mathlib.Core.List.{List}
use Prim.Native.Nat.{ℕ, suc, ◌+◌, ◌-◌, ◌≤◌, ◌<◌}
use native.Mathlib.Omega.{arith}
use native.Mathlib.Numerals.{add-one}
use lib.ListN.{length, get_or, take, set, replicate, get_or-append, length-map}
use lib.Seq.{get_or-set_same, get_or-set_other, take-suc, take_all, length-take-le}
use borrow.Author.Tests.{eq-eqb, ne_eqb}
use Rattle.record.specs.declared.Edit.{Edit}
use Rattle.record.specs.declared.Constraint.{Constraint}
use Rattle.record.specs.declared.Record as declared
use Rattle.lists.specs.Lists.{mem, index_of}
use Rattle.record.specs.Record.{Record, name_of, written, names}
use Rattle.record.specs.Stored.{padded, filler_edit, stored, record_of}
use Rattle.record_tables.proofs.Tables.{stored_back}
use Rattle.lists.proofs.Lists.{is-by, get_or-mapped}
use Rattle.graph.specs.links.Marks.{name_at, place_in}
use Rattle.graph.proofs.links.Names.{get_or-among, place-snoc, later-not, ascending-distinct}
use Rattle.graph.specs.indexes.Fit.{Fit}
use Rattle.graph.specs.indexes.Indexed.{Indexed}
use Rattle.lists.proofs.Arrays.{get_or-zeros}

pub length-names : (R : Record) → length (names R) ≡ suc (length R.edits)
unfolding names written
length-names R = ap suc (length-map R.edits name_of)

pub names-few : (R : Record) → Fit R → length (names R) ≤ 128
names-few R f = omega (arith, length-names R, f.edits)

module _ (r : declared.Record) (R : Record) (e : r ≡ stored R) where
  pub edit-at : (i : ℕ) (d : Edit) → i < length R.edits → get_or r.edits i d ≡ get_or R.edits i d
  unfolding padded
  edit-at i d h = ap (λ q. get_or q.edits i d) e ∙ get_or-append R.edits (replicate (127 - length R.edits) filler_edit) d i h

  -- the i-th edit's name stands at index i + 1
  pub name-at : (i : ℕ) (d : Edit) → i < length R.edits → (get_or r.edits i d).name ≡ name_at R (i + 1)
  unfolding names written
  name-at i d h = ap (λ q. q.name) (edit-at i d h) ∙ sym (rw (add-one i) (get_or-mapped name_of R.edits i d 0 h))

pub name_known : (R : Record) (i : ℕ) (d : Edit) → i < length R.edits → (get_or R.edits i d).name ≡ name_at R (i + 1)
unfolding names written
name_known R i d h = sym (rw (add-one i) (get_or-mapped name_of R.edits i d 0 h))

-- the names below index k have their index
abbrev pub Indexing : Record → List ℕ → ℕ → Type 0
Indexing R table k = (x : ℕ) → get_or table x 0 ≡ place_in (take k (names R)) x

pub indexing-start : (R : Record) → Indexing R (replicate 2304 0) 1
unfolding names place_in mem index_of
indexing-start R x = is-by x 0 (λ e. rw (e, get_or-zeros 2304 0)) (λ e. rw (ne_eqb x 0 e, get_or-zeros 2304 x))

pub indexing-step : (R : Record) → Fit R → (table : List ℕ) (k name : ℕ) → length table ≡ 2304 → k < length (names R) → name ≡ name_at R k
    → Indexing R table k → Indexing R (set table name k) (k + 1)
indexing-step R f table k name size h e g x =
    let d = ascending-distinct (names R) f.ascends in
    let l : name < length table = omega (arith, f.low (name_at R k) (get_or-among (names R) k h), e) in
    rw (add-one k, take-suc (names R) k 0 h, place-snoc (take k (names R)) (name_at R k) x (later-not (names R) k d h), length-take-le k (names R) (omega arith))
    (is-by x name
    (λ q. rw (q, get_or-set_same table name k 0 l, eq-eqb name (name_at R k) e))
    (λ q. rw (get_or-set_other table name x k 0 q, ne_eqb x (name_at R k) (λ z. q (z ∙ sym e))) (g x)))

pub indexing-end : (R : Record) (table : List ℕ) (k : ℕ) → length (names R) ≤ k → Indexing R table k → Indexed R table
indexing-end R table k h g x = g x ∙ ap (λ l. place_in l x) (take_all k (names R) h)

pub stored-edits : (r : declared.Record) (R : Record) (l : List Edit) → r ≡ stored R → l ≡ take r.edit_count r.edits → l ≡ R.edits
stored-edits r R l e q = q ∙ ap (λ z. z.edits) (ap record_of e ∙ stored_back R)

pub stored-constraints : (r : declared.Record) (R : Record) (l : List Constraint) → r ≡ stored R → l ≡ take r.constraint_count r.constraints → l ≡ R.constraints
stored-constraints r R l e q = q ∙ ap (λ z. z.constraints) (ap record_of e ∙ stored_back R)

-- one turn of the loop that fills the table
pub table-turn : (R : Record) → Fit R → (table : List ℕ) (l : List Edit) (i : ℕ) (d : Edit) → length table ≡ 2304 → l ≡ R.edits → i < length l → Indexing R table (i + 1)
    → Indexing R (set table (get_or l i d).name (i + 1)) (i + 1 + 1)
table-turn R f table l i d size q h g =
    let u : i < length R.edits = omega (arith, ap length q) in
    indexing-step R f table (i + 1) _ size (omega (arith, length-names R)) (ap (λ z. (get_or z i d).name) q ∙ name_known R i d u) g

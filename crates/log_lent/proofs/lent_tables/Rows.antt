-- The nine tables of a kind, whatever places each has: one row more in one of them, its rows, and others in their place. Assumes nothing.
use mathlib.Core.Path.{◌≡◌, refl, ◌∙◌}
use mathlib.Core.Bool.{true, false, cond}
use mathlib.Core.List.{List, [], ◌∷◌, ◌++◌, map, map-append}
use Prim.Native.Nat.{ℕ, suc, ◌+◌, ◌≤◌, ◌<◌}
use native.Mathlib.Omega.{arith}
use lib.Dec.{eqb, leb, ltb}
use lib.ListN.{length, get_or, set, take, length-set, length-map}
use lib.Seq.{take_all, take-suc, get_or-set_same, get_or-set_other, length-take-le}
use borrow.Author.Tests.{eq-eqb, ne_eqb, lt-ltb, le-ltb, le-leb, lt-leb}
use Rattle.lists.proofs.Arrays.{get_or-any}
use Rattle.lists.proofs.Lists.{is-by}
use Rattle.record_rows.specs.row.Row.{Row}
use Rattle.record_rows.specs.grounds.Ground.{Rows}
use Rattle.log_lent.specs.declared.lent_tables.KeptRows.{KeptRows}
use Rattle.log_lent.specs.Lent.{lent_records, is_lent, with, rows_fault, added, record_number}
use Rattle.log_lent.specs.Listed.{Listed}
use Rattle.log_lent.specs.lent_tables.Tables.{no_rows, Tables}
use Rattle.log_lent.proofs.Listed.{listed-length, listed-none}

module _ {cells places : ℕ} {tables : ℕ → Rows} {kept : List (KeptRows cells places)} (T : Tables tables kept) {place k : ℕ} (p : place ≡ k) where
  module _ (h : k < lent_records) where
    pub kept-rows : (d : KeptRows cells places) → Listed places (tables k) (get_or kept place d).rows (get_or kept place d).count
    kept-rows d = rw (p, get_or-any kept k d no_rows (rw T.size h)) (T.rows k h)

    pub kept-table : (d : KeptRows cells places) {table : KeptRows cells places} → table ≡ get_or kept place d → Listed places (tables k) table.rows table.count
    kept-table d e = rw e (kept-rows d)

    -- other rows in the place of a table
    put-rows : {rows : Rows} {table : KeptRows cells places} → Listed places rows table.rows table.count → Tables (with k rows tables) (set kept place table)
    unfolding with
    put-rows {rows} {table} H = rw p (record {
      size = length-set kept k table ∙ T.size;
      rows = λ j l. is-by j k
          (λ m. let q : eqb k k ≡ true = eq-eqb k k refl in rw (m, q, get_or-set_same kept k table no_rows (rw T.size h)) H)
          (λ n. let q : eqb j k ≡ false = ne_eqb j k n in rw (q, get_or-set_other kept k j table no_rows n) (T.rows j l));
    })

    pub replaced : {rows : Rows} {table : KeptRows cells places} → Listed places rows table.rows table.count
        → (0 ≡ record_number k) × Tables (cond (is_lent k) (with k rows tables) tables) (set kept place table)
    replaced H = let q : ltb k 9 ≡ true = lt-ltb k 9 h in rw q (refl, put-rows H)

    module _ (row : Row) (d : KeptRows cells places) where
      pub no-lent-place : places ≤ (get_or kept place d).count → (3 ≡ rows_fault places tables k) × Tables (added places tables k row) kept
      unfolding rows_fault added
      no-lent-place g =
          let e : ltb k 9 ≡ true = lt-ltb k 9 h in
          let f : leb places (length (tables k)) ≡ true = rw (listed-length (kept-rows d)) (le-leb places (get_or kept place d).count g) in
          rw (e, f) (refl, T)

      pub row-placed : (get_or kept place d).count < places → {longer : KeptRows cells places} → Listed places (tables k ++ (row ∷ [])) longer.rows longer.count
          → (0 ≡ rows_fault places tables k) × Tables (added places tables k row) (set kept place longer)
      unfolding rows_fault added
      row-placed g H =
          let a : ltb k 9 ≡ true = lt-ltb k 9 h in
          let b : leb places (length (tables k)) ≡ false = rw (listed-length (kept-rows d)) (lt-leb places (get_or kept place d).count g) in
          rw (a, b) (refl, put-rows H)

-- no such record
module _ {cells places : ℕ} {tables : ℕ → Rows} {kept : List (KeptRows cells places)} (T : Tables tables kept) (k : ℕ) (h : lent_records ≤ k) where
  pub no_record : (row : Row) → (2 ≡ rows_fault places tables k) × Tables (added places tables k row) kept
  unfolding rows_fault added
  no_record row = let e : ltb k 9 ≡ false = le-ltb k 9 h in rw e (refl, T)

  pub not-replaced : (rows : Rows) → (2 ≡ record_number k) × Tables (cond (is_lent k) (with k rows tables) tables) kept
  not-replaced rows = let e : ltb k 9 ≡ false = le-ltb k 9 h in rw e (refl, T)

-- the rows of a list join an emptied table one after the other
module _ {A : Type 0} (f : A → Row) (l : List A) (places : ℕ) (array₀ : Rows) (count₀ : ℕ) where
  abbrev pub RowsJoined : ℕ → Rows → ℕ → Type 0
  RowsJoined i array count = (rows : Rows) → Listed places rows array₀ count₀ → length l ≤ places → Listed places (map f (take i l)) array count

  pub rows-joined-none : RowsJoined 0 array₀ 0
  rows-joined-none rows H few = listed-none H

  pub rows-joined-next : (i : ℕ) (d : A) → i < length l → {row : Row} → row ≡ f (get_or l i d) → {array array' : Rows} {count count' : ℕ}
      → ((rows : Rows) → Listed places rows array count → length rows < places → Listed places (rows ++ (row ∷ [])) array' count')
      → RowsJoined i array count → RowsJoined (i + 1) array' count'
  rows-joined-next i d a {row} q {count' = count'} step J rows H few =
      let s : length (map f (take i l)) ≡ i = length-map (take i l) f ∙ length-take-le i l (omega arith) in
      let n : i + 1 ≡ suc i = omega arith in
      let e = step (map f (take i l)) (J rows H few) (omega arith) in
      rw (n, take-suc l i d a, map-append f (take i l) (get_or l i d ∷ []), ← q) e

  pub rows-joined-all : (i : ℕ) → length l ≤ i → {array : Rows} {count : ℕ} → RowsJoined i array count
      → (rows : Rows) → Listed places rows array₀ count₀ → length l ≤ places → Listed places (map f l) array count
  rows-joined-all i m J rows H few = rw (take_all i l m) at (J rows H few)

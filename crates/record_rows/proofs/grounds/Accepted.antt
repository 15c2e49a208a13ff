-- A table without a faulty row: its rows are in range, it ascends without repeats, has a place for each row once it has joined, and has no other body for a known key.
-- And a table by itself that is so has no faulty row. Assumes nothing.
use mathlib.Core.Path.{◌≡◌, refl}
use mathlib.Core.Bool.{Bool, true, false, not, ◌&&◌, and-false}
use mathlib.Core.Logic.{inl, inr}
use mathlib.Core.List.{[], ◌∷◌, ◌++◌, append_assoc, append-nil}
use Prim.Native.Nat.{◌≤◌, ◌<◌}
use native.Mathlib.Omega.{arith}
use borrow.Author.Tests.{not-false, leb-false, lt-leb}
use lib.Dec.{leb}
use lib.ListN.{length, take, length-append}
use Rattle.lists.proofs.Lists.{by}
use Rattle.lists.specs.Lists.{any, Has}
use Rattle.lists.specs.Keyed.{Below, Ascending, inserted, united}
use Rattle.lists.proofs.Logic.{any-no, any-by}
use Rattle.lists.proofs.Union.{late, ascending-last, ascending-snoc, ascending-united, united-snoc, united-old, united-alone, inserted-known, length_inserted}
use Rattle.record_rows.specs.row.Row.{Row, same}
use Rattle.record_rows.proofs.row.Compared.{same-eq}
use Rattle.record_rows.specs.grounds.Ground.{Rows, TableKind, alike, known, no_place, other_body, misplaced, row_fault, table_fault, ◌given◌, ◌orelse◌}
use Rattle.record_rows.proofs.grounds.Grounds.{orelse-none, given-none, Clean, clean, clean_is, before-none, clashes}

-- a row without fault
pub record RowClean (K : TableKind) (joined above : Rows) (row : Row) : Type 0 where
  pub range : K.in_range row ≡ true
  pub place : no_place K.key K.limit joined above row ≡ false
  pub body : other_body K.key joined above row ≡ false
  pub further : K.further row ≡ 0
  pub order : misplaced K.key above row ≡ false

module _ (K : TableKind) (joined : Rows) where
  pub row-clean : (above : Rows) (row : Row) → row_fault K joined above row ≡ 0 → RowClean K joined above row
  unfolding row_fault
  row-clean above row h =
      let out = not (K.in_range row) in
      let none = no_place K.key K.limit joined above row in
      let other = other_body K.key joined above row in
      let last = misplaced K.key above row in
      let a = orelse-none (2 given out) (3 given none orelse 4 given other orelse K.further row orelse 13 given last) h in
      let b = orelse-none (3 given none) (4 given other orelse K.further row orelse 13 given last) a.1 in
      let c = orelse-none (4 given other) (K.further row orelse 13 given last) b.1 in
      let d = orelse-none (K.further row) (13 given last) c.1 in
      record {
        range = not-false (K.in_range row) (given-none 1 out a.0);
        place = given-none 2 none b.0;
        body = given-none 3 other c.0;
        further = d.0;
        order = given-none 12 last d.1;
      }

  pub row-clean-is : (above : Rows) (row : Row) → RowClean K joined above row → row_fault K joined above row ≡ 0
  unfolding row_fault
  row-clean-is above row c = rw (c.range, c.place, c.body, c.further, c.order)

  -- from a table without fault
  module _ (t : Rows) (h : table_fault K joined t ≡ 0) where
    in_rows : (P : Row → Type 0) → ((above : Rows) (row : Row) → RowClean K joined above row → P row) → (above rest : Rows) → Clean (row_fault K joined) above rest → (x : Row) → Has x rest → P x
    in_rows P f above [] c x m = absurd m
    in_rows P f above (y ∷ rest) c x (inl e) = rw e (f above y (row-clean above y c.0))
    in_rows P f above (y ∷ rest) c x (inr m) = in_rows P f (above ++ (y ∷ [])) rest c.1 x m

    pub accepted-range : (x : Row) → Has x t → K.in_range x ≡ true
    accepted-range = in_rows (λ x. K.in_range x ≡ true) (λ above row c. c.range) [] t (clean (row_fault K joined) [] t h)

    pub accepted-further : (x : Row) → Has x t → K.further x ≡ 0
    accepted-further = in_rows (λ x. K.further x ≡ 0) (λ above row c. c.further) [] t (clean (row_fault K joined) [] t h)

    clean-ascending : (above rest : Rows) → Clean (row_fault K joined) above rest → Ascending (take K.key) above → Ascending (take K.key) (above ++ rest)
    unfolding misplaced
    clean-ascending above [] c a = rw append-nil a
    clean-ascending above (r ∷ rest) c a =
        rw append_assoc at (clean-ascending (above ++ (r ∷ [])) rest c.1 (ascending-snoc (take K.key) above r a (row-clean above r c.0).order))

    pub accepted-ascending : Ascending (take K.key) t
    accepted-ascending = clean-ascending [] t (clean (row_fault K joined) [] t h) tt

    -- a known key has the same row
    left_out : (x y : Bool) → x ≡ false → (not x && y) ≡ false → y ≡ false
    left_out x y p q = rw p at q

    whole : (x y : Bool) → x ≡ true → (x && not y) ≡ false → y ≡ true
    whole x y p q = not-false y (rw p at q)

    agree-row : (above : Rows) (x : Row) → RowClean K joined above x → (r : Row) → Has r joined → alike K.key x r ≡ true → x ≡ r
    unfolding misplaced other_body
    agree-row above x z r m s =
        let n : known K.key x above ≡ false = (before-none K.key x above z.order).0 in
        let c : clashes K.key x joined ≡ false = left_out (known K.key x above) (clashes K.key x joined) n z.body in
        same-eq x r (whole (alike K.key x r) (same x r) s (any-no (λ r. alike K.key x r && not (same x r)) joined c r m))

    pub accepted-alike : (x : Row) → Has x t → (r : Row) → Has r joined → alike K.key x r ≡ true → x ≡ r
    accepted-alike = in_rows (λ x. (r : Row) → Has r joined → alike K.key x r ≡ true → x ≡ r) agree-row [] t (clean (row_fault K joined) [] t h)

    -- the union has places
    module _ (a : Ascending (take K.key) joined) where
      within_step : (above : Rows) (r : Row) → RowClean K joined above r → length (united (take K.key) joined above) ≤ K.limit → length (united (take K.key) joined (above ++ (r ∷ []))) ≤ K.limit
      unfolding misplaced no_place
      within_step above r z l =
          let so_far = united (take K.key) joined above in
          rw (united-snoc (take K.key) joined above r)
          (by (known K.key r joined)
          (λ e. any-by (alike K.key r) joined e
          (λ q m s.
          let i : inserted (take K.key) r so_far ≡ so_far = inserted-known (take K.key) r q so_far (ascending-united (take K.key) joined above a) (united-old (take K.key) q joined above m) (same-eq (take K.key r) (take K.key q) s) in
          rw i l))
          (λ e.
          let n : known K.key r above ≡ false = (before-none K.key r above z.order).0 in
          let f : leb K.limit (length so_far) ≡ false = left_out (known K.key r above) (leb K.limit (length so_far)) n (left_out (known K.key r joined) (not (known K.key r above) && leb K.limit (length so_far)) e z.place) in
          omega (arith, leb-false K.limit (length so_far) f, length_inserted (take K.key) r so_far)))

      clean-within : (above rest : Rows) → Clean (row_fault K joined) above rest → length (united (take K.key) joined above) ≤ K.limit → length (united (take K.key) joined (above ++ rest)) ≤ K.limit
      clean-within above [] c l = rw append-nil l
      clean-within above (r ∷ rest) c l = rw append_assoc at (clean-within (above ++ (r ∷ [])) rest c.1 (within_step above r (row-clean above r c.0) l))

      pub accepted-within : length joined ≤ K.limit → length (united (take K.key) joined t) ≤ K.limit
      unfolding united
      accepted-within l = clean-within [] t (clean (row_fault K joined) [] t h) l

-- to a table by itself without fault
module _ (K : TableKind) where
  front-ascends : (s u : Rows) → Ascending (take K.key) (s ++ u) → Ascending (take K.key) s
  front-ascends [] u a = tt
  front-ascends (x ∷ s) u a = (front_below s a.0, front-ascends s u a.1)
    where
      front_below : (s : Rows) → Below (take K.key) x (s ++ u) → Below (take K.key) x s
      front_below [] b = tt
      front_below (y ∷ s) b = (b.0, front_below s b.1)

  alone-row : (above : Rows) (r : Row) → K.in_range r ≡ true → K.further r ≡ 0 → Ascending (take K.key) above → late (take K.key) above (take K.key r) ≡ false → length above < K.limit → RowClean K [] above r
  unfolding no_place other_body misplaced any
  alone-row above r e g a o l =
      record {
        range = e;
        place = rw (united-alone (take K.key) above a, lt-leb K.limit (length above) l) (and-false (not (known K.key r above)));
        body = and-false (not (known K.key r above));
        further = g;
        order = o;
      }

  clean-alone : (above rest : Rows) → ((x : Row) → Has x rest → K.in_range x ≡ true) → ((x : Row) → Has x rest → K.further x ≡ 0) → Ascending (take K.key) (above ++ rest)
      → length (above ++ rest) ≤ K.limit → Clean (row_fault K []) above rest
  clean-alone above [] f g a l = tt
  clean-alone above (r ∷ rest) f g a l =
      let b : Ascending (take K.key) ((above ++ (r ∷ [])) ++ rest) = rw append_assoc a in
      let o : late (take K.key) above (take K.key r) ≡ false = ascending-last (take K.key) above r (front-ascends (above ++ (r ∷ [])) rest b) in
      let few : length above < K.limit = omega (arith, length-append above (r ∷ rest)) in (
        row-clean-is K [] above r (alone-row above r (f r (inl refl)) (g r (inl refl)) (front-ascends above (r ∷ rest) a) o few),
        clean-alone (above ++ (r ∷ [])) rest (λ x m. f x (inr m)) (λ x m. g x (inr m)) b (rw append_assoc l),
      )

  pub accepted-alone : (t : Rows) → ((x : Row) → Has x t → K.in_range x ≡ true) → ((x : Row) → Has x t → K.further x ≡ 0) → Ascending (take K.key) t → length t ≤ K.limit → table_fault K [] t ≡ 0
  accepted-alone t f g a l = clean_is (row_fault K []) [] t (clean-alone [] t f g a l)

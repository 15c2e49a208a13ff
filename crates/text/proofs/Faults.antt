-- The number of a row that joins the rows above it and no record, as the code looks for it. Assumes nothing.
use mathlib.Core.Path.{◌≡◌, ap, sym, ◌∙◌}
use mathlib.Core.Bool.{Bool, true, false, not, ◌&&◌, and-false}
use mathlib.Core.List.{[]}
use Prim.Native.Nat.{ℕ, ◌<◌}
use borrow.Author.Tests.{leb-false}
use lib.Dec.{leb}
use lib.ListN.{length, take}
use Rattle.lists.specs.Lists.{any}
use Rattle.lists.specs.Keyed.{Ascending}
use Rattle.lists.proofs.Union.{united-alone}
use Rattle.record_rows.specs.row.Row.{Row}
use Rattle.record_rows.specs.grounds.Ground.{Rows, TableKind, known, no_place, other_body, misplaced, row_fault, ◌given◌, ◌orelse◌}
use Rattle.record_rows.proofs.grounds.Grounds.{orelse-first, orelse-second, before-none}
use Rattle.record_rows.proofs.grounds.Accepted.{row-clean}
use Rattle.text.specs.Own.{row_kind}

module _ (K : TableKind) (above : Rows) (row : Row) where
  pub alone-range : {b : Bool} → b ≡ K.in_range row → b ≡ false → 2 ≡ row_fault K [] above row
  unfolding row_fault
  alone-range p q = let e : K.in_range row ≡ false = sym p ∙ q in rw e

  module _ (a : Ascending (take K.key) above) {b : Bool} (p : b ≡ K.in_range row) (q : b ≡ true) {f : Bool} (r : f ≡ (not (known K.key row above) && leb K.limit (length above))) where
    place_is : no_place K.key K.limit [] above row ≡ f
    unfolding no_place any
    place_is = rw (united-alone (take K.key) above a) (sym r)

    pub alone-place : f ≡ true → 3 ≡ row_fault K [] above row
    unfolding row_fault
    alone-place s =
        let e : K.in_range row ≡ true = sym p ∙ q in
        let g : no_place K.key K.limit [] above row ≡ true = place_is ∙ s in
        rw (e, g)

    module _ (s : f ≡ false) where
      rest-is : row_fault K [] above row ≡ K.further row orelse 13 given misplaced K.key above row
      unfolding row_fault other_body any
      rest-is =
          let e : K.in_range row ≡ true = sym p ∙ q in
          let g : no_place K.key K.limit [] above row ≡ false = place_is ∙ s in
          rw (e, g, and-false (not (known K.key row above)))

      pub alone-further : {x : ℕ} → x ≡ K.further row → (x ≡ 0 → ⊥) → x ≡ row_fault K [] above row
      alone-further e z = e ∙ sym (rest-is ∙ orelse-first (K.further row) _ (λ y. z (e ∙ y)))

      module _ (e : K.further row ≡ 0) {g : Bool} (w : not g ≡ misplaced K.key above row) where
        pub alone-follows : g ≡ true → 0 ≡ row_fault K [] above row
        alone-follows u = let m : misplaced K.key above row ≡ false = sym w ∙ ap not u in sym (rest-is ∙ orelse-second (K.further row) _ e ∙ rw m)

        pub alone-late : g ≡ false → 13 ≡ row_fault K [] above row
        alone-late u = let m : misplaced K.key above row ≡ true = sym w ∙ ap not u in sym (rest-is ∙ orelse-second (K.further row) _ e ∙ rw m)

-- of a kind only what is left to say of the row counts
pub kind-same : (K : TableKind) (above : Rows) (row : Row) {n : ℕ} → n ≡ K.further row → row_fault (row_kind K.key K.limit K.in_range n) [] above row ≡ row_fault K [] above row
unfolding row_fault
kind-same K above row e = rw e

-- a row without fault has a place
pub alone-room : (K : TableKind) (above : Rows) (row : Row) → Ascending (take K.key) above → row_fault K [] above row ≡ 0 → length above < K.limit
unfolding no_place misplaced any
alone-room K above row a h =
    let c = row-clean K [] above row h in
    let n : known K.key row above ≡ false = (before-none K.key row above c.order).0 in
    let u = united-alone (take K.key) above a in
    leb-false K.limit (length above) (rw (u, n) at c.place)

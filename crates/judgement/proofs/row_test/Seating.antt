-- The seats of a row: what the loop over the row keeps, and what a name that is unknown or repeated means. Assumes nothing.
use mathlib.Core.Path.{◌≡◌, refl, sym, ap, ◌∙◌}
use mathlib.Core.Bool.{true, false, cond, and-false}
use mathlib.Core.List.{List, [], ◌∷◌, ◌++◌}
use Prim.Native.Nat.{ℕ, suc, ◌+◌, ◌≤◌, ◌<◌}
use native.Mathlib.Omega.{arith}
use native.Mathlib.Numerals.{add-one}
use lib.Dec.{eqb}
use lib.ListN.{length, get_or, take, set, replicate}
use lib.Seq.{get_or-set_same, get_or-set_other, take-suc, take_all, length-take-le}
use borrow.Author.Tests.{eq-eqb, ne_eqb}
use Rattle.std.specs.Prelude.{Some, None}
use Rattle.lists.specs.Lists.{all, mem, index_of, position_of, distinct, ◌among◌}
use Rattle.record.specs.Record.{Record, names}
use Rattle.lists.proofs.Lists.{by, clash, is-by, mem_index, snoc-by, all_in, in_all, distinct_snoc, index-snoc, position-none, position_some}
use Rattle.record.proofs.Records.{init-known}
use Rattle.graph.specs.links.Marks.{name_at}
use Rattle.graph.proofs.links.Marks.{name-zero}
use Rattle.graph.proofs.links.Names.{get_or-among, get_or-place, place-get_or, later-not, ascending-distinct, place-known, place-unknown}
use Rattle.graph.specs.indexes.Fit.{Fit}
use Rattle.graph.specs.indexes.Indexed.{Indexed}
use Rattle.graph.proofs.indexes.Tables.{names-few}
use Rattle.judgement.specs.row_test.Seats.{Seated, known_apart}
use Rattle.lists.proofs.Arrays.{get_or-zeros}

init-place : (R : Record) → index_of 0 (names R) ≡ 0
unfolding names index_of
init-place R = refl

-- the index of a known name
module _ (R : Record) (table : List ℕ) (t : Indexed R table) (name : ℕ) where
  pub index-some : (index : ℕ) → index ≡ get_or table name 0 → (index ≡ 0 → ⊥) → Some index ≡ cond (mem name (names R)) (Some (index_of name (names R))) None
  index-some index e n =
      by (mem name (names R)) (λ i. rw i (ap Some (e ∙ t name ∙ place-known name (names R) i))) (λ i. absurd (n (e ∙ t name ∙ place-unknown name (names R) i)))

  pub index-init : (index : ℕ) → index ≡ 0 → name ≡ 0 → Some index ≡ cond (mem name (names R)) (Some (index_of name (names R))) None
  index-init index e q = rw (q, init-known R, e) (ap Some (sym (init-place R)))

  pub index-none : get_or table name 0 ≡ 0 → (name ≡ 0 → ⊥) → None ≡ cond (mem name (names R)) (Some (index_of name (names R))) None
  index-none e n =
      by (mem name (names R))
      (λ i. absurd (n (sym (get_or-place name (names R) i) ∙ ap (name_at R) (sym (place-known name (names R) i) ∙ sym (t name) ∙ e) ∙ name-zero R)))
      (λ i. rw i)

-- seats
pub seat-snoc : (l : List ℕ) (x y : ℕ) → mem x l ≡ false → position_of y (l ++ (x ∷ [])) ≡ cond (eqb y x) (suc (length l)) (position_of y l)
unfolding position_of
seat-snoc l x y n = index-snoc suc l x y n

-- the first q names are known and distinct, and have their seats
pub record Seating (R : Record) (row places : List ℕ) (q : ℕ) : Type 0 where
  pub known : (x : ℕ) → x among take q row → x among names R
  pub apart : distinct (take q row) ≡ true
  pub seats : (y : ℕ) → y < length (names R) → get_or places y 0 ≡ position_of (name_at R y) (take q row)

pub seating-start : (R : Record) (row : List ℕ) → Seating R row (replicate 128 0) 0
unfolding mem distinct position_of
seating-start R row = record { known = λ x h. clash h refl; apart = refl; seats = λ y l. get_or-zeros 128 y }

module _ (R : Record) (f : Fit R) (row places : List ℕ) (q : ℕ) (h : q < length row) where
  -- a name that is not known
  pub unknown-not : mem (get_or row q 0) (names R) ≡ false → false ≡ known_apart R row
  unfolding known_apart
  unknown-not n =
      by (all (λ x. mem x (names R)) row) (λ a. clash (all_in (λ x. mem x (names R)) row a (get_or row q 0) (get_or-among row q h)) n) (λ a. sym (rw a))

  module _ (size : length places ≡ 128) (g : Seating R row places q) (i : get_or row q 0 among names R) where
    seat-here : get_or places (index_of (get_or row q 0) (names R)) 0 ≡ position_of (get_or row q 0) (take q row)
    seat-here = g.seats (index_of (get_or row q 0) (names R)) (mem_index (get_or row q 0) (names R) i) ∙ ap (λ (x : ℕ). position_of x (take q row)) (get_or-place (get_or row q 0) (names R) i)

    -- a name that stands before
    pub repeated-not : (get_or places (index_of (get_or row q 0) (names R)) 0 ≡ 0 → ⊥) → false ≡ known_apart R row
    unfolding known_apart
    repeated-not n =
        by (distinct row)
        (λ d. clash (position_some (get_or row q 0) (take q row) (λ e. n (seat-here ∙ e))) (later-not row q d h))
        (λ d. sym (rw d (and-false (all (λ x. mem x (names R)) row))))

    pub seating-step : get_or places (index_of (get_or row q 0) (names R)) 0 ≡ 0 → Seating R row (set places (index_of (get_or row q 0) (names R)) (q + 1)) (q + 1)
    seating-step e =
        let x = get_or row q 0 in
        let p = index_of (get_or row q 0) (names R) in
        let d = ascending-distinct (names R) f.ascends in
        let m = position-none (get_or row q 0) (take q row) (sym seat-here ∙ e) in
        let l : index_of (get_or row q 0) (names R) < length places = omega (arith, mem_index (get_or row q 0) (names R) i, names-few R f) in
        let more : take (q + 1) row ≡ take q row ++ (get_or row q 0 ∷ []) = rw (add-one q) (take-suc row q 0 h) in record {
          known = λ y k. snoc-by y (take q row) x (rw more at k) (g.known y) (λ z. rw z i);
          apart = rw more (distinct_snoc (take q row) x g.apart m);
          seats = λ y k. rw (more, seat-snoc (take q row) x (name_at R y) m, length-take-le q row (omega arith))
              (is-by y p
              (λ z. rw (z, get_or-set_same places p (q + 1) 0 l, eq-eqb (name_at R p) x (get_or-place x (names R) i)) (omega arith))
              (λ z. rw (get_or-set_other places p y (q + 1) 0 z, ne_eqb (name_at R y) x (λ w. z (sym (place-get_or (names R) y d k) ∙ ap (λ v. index_of v (names R)) w))) (g.seats y k)));
        }

pub seating-end : (R : Record) (row places : List ℕ) (q : ℕ) → length row ≤ q → Seating R row places q → (true ≡ known_apart R row) × Seated R row places
unfolding known_apart
seating-end R row places q h g =
    let e = take_all q row h in (
      sym (rw (in_all (λ x. mem x (names R)) row (λ x i. g.known x (rw e i)), sym (ap distinct e) ∙ g.apart)),
      λ x i. g.seats (index_of x (names R)) (mem_index x (names R) i) ∙ rw (e, get_or-place x (names R) i),
    )

-- what the index of a name tells
module _ (R : Record) (name : ℕ) where
  pub row-index-unknown : None ≡ cond (mem name (names R)) (Some (index_of name (names R))) None → mem name (names R) ≡ false
  row-index-unknown e = by (mem name (names R)) (λ i. absurd (cc (rw i at e))) (λ i. i)

  pub row-index-known : (index : ℕ) → Some index ≡ cond (mem name (names R)) (Some (index_of name (names R))) None → (name among names R) × (index ≡ index_of name (names R))
  row-index-known index e =
      by (mem name (names R)) (λ i. (i, cc (rw i at e))) (λ i. absurd (cc (rw i at e)))

-- The first faulty row, looked for row by row, and the grounds 3, 4 and 13 of a row by its place in an ascending table. Assumes nothing.
use mathlib.Core.Path.{◌≡◌, refl, ap, ◌∙◌, sym}
use mathlib.Core.Bool.{Bool, true, false, not, ◌&&◌, or-false}
use mathlib.Core.Logic.{⊎_elim}
use mathlib.Core.List.{List, [], ◌∷◌, ◌++◌}
use Prim.Native.Nat.{ℕ, zero, suc, ◌+◌, ◌≤◌, ◌<◌}
use native.Mathlib.Numerals.{add-one}
use native.Mathlib.Omega.{arith}
use borrow.Author.Tests.{eqb-true, eq-eqb, ne_eqb}
use lib.Dec.{eqb}
use lib.ListN.{length, take, drop, get_or, drop_of_length-le}
use lib.Seq.{take-suc, drop-cons, take_all, split_at}
use Rattle.lists.proofs.Lists.{by, clash}
use Rattle.lists.specs.Lists.{any, Has}
use Rattle.lists.specs.Keyed.{precedes, Below, Ascending}
use Rattle.lists.proofs.Logic.{any_append, any_none}
use Rattle.lists.proofs.Order.{less-trans}
use Rattle.lists.proofs.Union.{late, late-has, below-has}
use Rattle.record_rows.specs.row.Row.{Row, same}
use Rattle.record_rows.proofs.row.Compared.{same-eq, less_other, more-other}
use Rattle.record_rows.specs.grounds.Ground.{Rows, alike, known, first_fault, ◌given◌, ◌orelse◌}
use Rattle.std.proofs.lemmas.Bool.{and_left}

pub orelse-none : (a b : ℕ) → a orelse b ≡ 0 → (a ≡ 0) × (b ≡ 0)
orelse-none a b h =
    by (eqb a 0) (λ (e : eqb a 0 ≡ true). (eqb-true a 0 e, rw e at h)) (λ (e : eqb a 0 ≡ false). clash (eq-eqb a 0 (rw e at h)) e)

pub orelse-first : (a b : ℕ) → (a ≡ 0 → ⊥) → a orelse b ≡ a
orelse-first a b h = rw (ne_eqb a 0 h)

pub orelse-second : (a b : ℕ) → a ≡ 0 → a orelse b ≡ b
orelse-second a b h = rw (eq-eqb a 0 h)

pub orelse-zero : (n : ℕ) → n orelse 0 ≡ n
orelse-zero n = by (eqb n 0) (λ e. rw e (sym (eqb-true n 0 e))) (λ e. rw e)

pub orelse-assoc : (a b c : ℕ) → a orelse b orelse c ≡ ((a orelse b) orelse c)
orelse-assoc a b c = by (eqb a 0) (λ e. rw e) (λ e. rw (e, e))

pub given-none : (n : ℕ) (b : Bool) → suc n given b ≡ 0 → b ≡ false
given-none n true h = absurd (omega arith)
given-none n false h = refl

-- the scan, row by row
module _ (f : Rows → Row → ℕ) where
  -- no row of the rest has a fault below those above it
  abbrev pub Clean : Rows → Rows → Type 0
  Clean above [] = Unit
  Clean above (r ∷ rs) = (f above r ≡ 0) × Clean (above ++ (r ∷ [])) rs

  pub clean : (above rest : Rows) → first_fault f above rest ≡ 0 → Clean above rest
  unfolding first_fault
  clean above [] h = tt
  clean above (r ∷ rs) h =
      let p = orelse-none (f above r) (first_fault f (above ++ (r ∷ [])) rs) h in
      (p.0, clean (above ++ (r ∷ [])) rs p.1)

  pub clean_is : (above rest : Rows) → Clean above rest → first_fault f above rest ≡ 0
  unfolding first_fault
  clean_is above [] c = refl
  clean_is above (r ∷ rs) c = orelse-second (f above r) (first_fault f (above ++ (r ∷ [])) rs) c.0 ∙ clean_is (above ++ (r ∷ [])) rs c.1

  module _ (t : Rows) (i : ℕ) where
    pub scan-here : i < length t → (n : ℕ) → f (take i t) (get_or t i []) ≡ n → (n ≡ 0 → ⊥) → first_fault f (take i t) (drop i t) ≡ n
    unfolding first_fault
    scan-here h n e z = rw (drop-cons t i [] h, e, ne_eqb n 0 z)

    pub scan-more : i < length t → f (take i t) (get_or t i []) ≡ 0 → first_fault f (take i t) (drop i t) ≡ first_fault f (take (i + 1) t) (drop (i + 1) t)
    unfolding first_fault
    scan-more h e = rw (drop-cons t i [] h, e, add-one, take-suc t i [] h)

    pub scan-end : i ≡ length t → first_fault f (take i t) (drop i t) ≡ 0
    unfolding first_fault
    scan-end h = let m : length t ≤ i = omega arith in rw (drop_of_length-le t {i = i} m)

-- a test of some row of an ascending table, from the place of a key
module _ (k : ℕ) where
  abbrev pub clashes : List ℕ → Rows → Bool
  clashes row t = any (λ r. alike k row r && not (same row r)) t

  pub before-none : (row : List ℕ) (s : Rows) → late (take k) s (take k row) ≡ false → (known k row s ≡ false) × (clashes row s ≡ false)
  before-none row s h =
      let n : (r : List ℕ) → Has r s → alike k row r ≡ false = λ r m. more-other (take k row) (take k r) (late-has (take k) s (take k row) h r m) in
      (any_none (alike k row) s n, any_none (λ r. alike k row r && not (same row r)) s (λ r m. and_left (alike k row r) (not (same row r)) (n r m)))

  pub above-none : (row : List ℕ) (s : Rows) → ((r : List ℕ) → Has r s → precedes (take k row) (take k r) ≡ true) → (known k row s ≡ false) × (clashes row s ≡ false)
  above-none row s h =
      let n : (r : List ℕ) → Has r s → alike k row r ≡ false = λ r m. less_other (take k row) (take k r) (h r m) in
      (any_none (alike k row) s n, any_none (λ r. alike k row r && not (same row r)) s (λ r m. and_left (alike k row r) (not (same row r)) (n r m)))

  pub ascending-at : (J : Rows) (p : ℕ) → p < length J → Ascending (take k) J → Below (take k) (get_or J p []) (drop (suc p) J)
  ascending-at [] p h a = absurd (omega arith)
  ascending-at (x ∷ J) zero h a = a.0
  ascending-at (x ∷ J) (suc p) h a = ascending-at J p (omega arith) a.1

  module _ (J : Rows) (row : List ℕ) (p : ℕ) (a : Ascending (take k) J) (b : late (take k) (take p J) (take k row) ≡ false) where
    pub place_end : p ≡ length J → (known k row J ≡ false) × (clashes row J ≡ false)
    place_end e =
        let t : take p J ≡ J = take_all p J (omega arith) in
        before-none row J (rw t at b)

    module _ (h : p < length J) where
      splits : J ≡ take p J ++ (get_or J p [] ∷ drop (suc p) J)
      splits = split_at J p [] h

      pub place-new : precedes (take k row) (take k (get_or J p [])) ≡ true → (known k row J ≡ false) × (clashes row J ≡ false)
      unfolding any
      place-new e =
          let f = before-none row (take p J) b in
          let g = above-none row (get_or J p [] ∷ drop (suc p) J) (λ r m. ⊎_elim (λ (q : r ≡ get_or J p []). rw q e) (λ (m : Has r (drop (suc p) J)). less-trans (take k row) (take k (get_or J p [])) (take k r) e (below-has (take k) (get_or J p []) r (drop (suc p) J) (ascending-at J p h a) m)) m) in (
            ap (known k row) splits ∙ any_append (alike k row) (take p J) (get_or J p [] ∷ drop (suc p) J) ∙ rw f.0 g.0,
            ap (clashes row) splits ∙ any_append (λ r. alike k row r && not (same row r)) (take p J) (get_or J p [] ∷ drop (suc p) J) ∙ rw f.1 g.1,
          )

      pub row-place-known : alike k row (get_or J p []) ≡ true → (known k row J ≡ true) × (clashes row J ≡ not (same row (get_or J p [])))
      unfolding any
      row-place-known e =
          let f = before-none row (take p J) b in
          let u : take k row ≡ take k (get_or J p []) = same-eq (take k row) (take k (get_or J p [])) e in
          let g = above-none row (drop (suc p) J) (λ r m. rw u (below-has (take k) (get_or J p []) r (drop (suc p) J) (ascending-at J p h a) m)) in (
            ap (known k row) splits ∙ any_append (alike k row) (take p J) (get_or J p [] ∷ drop (suc p) J) ∙ rw (f.0, e),
            ap (clashes row) splits ∙ any_append (λ r. alike k row r && not (same row r)) (take p J) (get_or J p [] ∷ drop (suc p) J) ∙ rw (f.1, e, g.1) (or-false (not (same row (get_or J p [])))),
          )

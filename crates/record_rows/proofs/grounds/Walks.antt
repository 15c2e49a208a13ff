-- The place of a lent row in an ascending table, and the walk through the lent rows that join it. Assumes nothing.
use mathlib.Core.Path.{◌≡◌, refl, ap, sym, ◌∙◌}
use mathlib.Core.Bool.{Bool, true, false, cond, not}
use mathlib.Core.Logic.{⊎_elim}
use mathlib.Core.List.{List, [], ◌∷◌, ◌++◌, map}
use Prim.Native.Nat.{ℕ, suc, ◌+◌, ◌≤◌, ◌<◌}
use native.Mathlib.Numerals.{add-one}
use native.Mathlib.Omega.{arith}
use borrow.Author.Tests.{ltb-true, ltb-false, leb-false}
use lib.Dec.{leb, ltb, eqb}
use lib.ListN.{length, take, drop, get_or, drop_of_length-le}
use lib.Pointwise.{pointwise}
use lib.Seq.{take-suc, take-add, drop-cons}
use Rattle.std.specs.Prelude.{Result, Ok, Err}
use Rattle.std.specs.List.{prefix_len}
use Rattle.std.proofs.lemmas.List.{get_or-drop, length-drop}
use Rattle.refusals.specs.declared.Refusal.{Refusal}
use Rattle.refusals.specs.Numbers.{number_of}
use Rattle.lists.proofs.Lists.{by, clash}
use Rattle.lists.specs.Lists.{any, Has}
use Rattle.lists.specs.Keyed.{precedes, Ascending, inserted, united}
use Rattle.lists.proofs.Logic.{has-get_or, any-no, any_append}
use Rattle.lists.proofs.Union.{late, late-last, late-more, late-has, ascending-snoc, ascending-united, united-snoc, united-has, united-old, inserted-known, length-new}
use Rattle.record_rows.specs.row.Row.{Row, same}
use Rattle.record_rows.proofs.row.Compared.{same-eq, neither-same, slice-same}
use Rattle.record_rows.specs.grounds.Ground.{Rows, alike, known, misplaced, ◌given◌, ◌orelse◌}
use Rattle.record_rows.specs.grounds.Walk.{row_joins, as_new, as_known, PlaceOf, place_fault}
use Rattle.record_rows.proofs.grounds.Grounds.{clashes, place_end, place-new, row-place-known}

module _ (k : ℕ) (row : Row) where
  -- the elements that precede a row, counted from the first on
  module _ {A : Type 0} (f : A → Row) where
    abbrev before : A → Bool
    before x = precedes (take k (f x)) (take k row)

    pub place-counted : (l : List A) → PlaceOf k (map f l) row (prefix_len before l)
    unfolding misplaced any
    place-counted [] = record { near = omega arith; under = refl; stops = λ h. absurd (omega arith) }
    place-counted (x ∷ l) =
        by (before x)
        (λ e. let p = place-counted l in
        let m : prefix_len before (x ∷ l) ≡ 1 + prefix_len before l = rw e in
        let n : prefix_len before (x ∷ l) ≡ suc (prefix_len before l) = omega (arith, m) in
        rw n
        (record {
          near = let q : prefix_len before l ≤ length (map f l) = p.near in omega arith;
          under = rw e p.under;
          stops = λ h. p.stops (omega arith);
        }))
        (λ e. let n : prefix_len before (x ∷ l) ≡ 0 = rw e in rw n (record { near = omega arith; under = refl; stops = λ h. e }))

  -- the code's step at the rest of a table
  module _ (full : Bool) {A : Type 0} (f : A → Row) (l : List A) where
    pub joins-end : length l < 1 → {r : Result Bool Refusal} → r ≡ as_new full → r ≡ row_joins k (map f l) row full
    unfolding row_joins
    joins-end h e = e ∙ go l h
      where
        go : (l : List A) → length l < 1 → as_new full ≡ row_joins k (map f l) row full
        go [] h = refl
        go (x ∷ l) h = absurd (omega (arith, h))

    first_is : (l : List A) (x : A) → 1 ≤ length l → x ≡ get_or l 0 x → (rest : Rows) × (map f l ≡ f x ∷ rest)
    first_is [] x h e = absurd (omega (arith, h))
    first_is (y ∷ l) x h e = (map f l, rw e)

    module _ (h : 1 ≤ length l) {x : A} {own : Row} (e : x ≡ get_or l 0 x) (o : own ≡ f x) {b : Bool} (i : b ≡ precedes (take k row) (take k own)) {r : Result Bool Refusal} where
      pub joins-fresh : b ≡ true → r ≡ as_new full → r ≡ row_joins k (map f l) row full
      unfolding row_joins
      joins-fresh y z = let m = first_is l x h e in let p : precedes (take k row) (take k (f x)) ≡ true = rw (y, o) at (sym i) in rw (m.1, p) z

      pub joins-known : b ≡ false → {q : Bool} → q ≡ pointwise eqb row own → r ≡ as_known q → r ≡ row_joins k (map f l) row full
      unfolding row_joins
      joins-known y s z =
          let m = first_is l x h e in
          let p : precedes (take k row) (take k (f x)) ≡ false = rw (y, o) at (sym i) in
          rw (m.1, p) (rw (s, slice-same row own, o) at z)

  -- a new row has a place
  pub joins-room : (J : Rows) (limit count m : ℕ) (new : Bool) → row_joins k J row (leb limit count) ≡ Ok new → count < m → limit < m → count + cond new 1 0 < m
  unfolding row_joins
  joins-room J limit count m false e h l = omega arith
  joins-room J limit count m true e h l = by (leb limit count) (λ (f : leb limit count ≡ true). absurd (full-not J (rw f at e))) (λ (f : leb limit count ≡ false). omega (arith, leb-false limit count f))
    where
      old-of : Result Bool Refusal → ℕ
      old-of (Ok true) = 0
      old-of (Ok false) = 1
      old-of (Err r) = 2

      known-not : (b : Bool) → as_known b ≡ Ok true → ⊥
      known-not true z = let n : ◌≡◌ {A = ℕ} 1 0 = ap old-of z in omega (arith, n)
      known-not false z = let n : ◌≡◌ {A = ℕ} 2 0 = ap old-of z in omega (arith, n)

      full-not : (J : Rows) → row_joins k J row true ≡ Ok true → ⊥
      full-not [] z = let n : ◌≡◌ {A = ℕ} 2 0 = ap old-of z in omega (arith, n)
      full-not (x ∷ J) z = by (precedes (take k row) (take k x)) (λ (f : precedes (take k row) (take k x) ≡ true). let n : ◌≡◌ {A = ℕ} 2 0 = ap old-of (rw f at z) in omega (arith, n)) (λ (f : precedes (take k row) (take k x) ≡ false). known-not (same row x) (rw f at z))

  module _ (J : Rows) where
    -- from a place before it on
    pub place-on : (s q : ℕ) → s ≤ length J → misplaced k (take s J) row ≡ false → PlaceOf k (drop s J) row q → PlaceOf k J row (s + q)
    unfolding misplaced
    place-on s q l b p =
        record {
          near = let n : q ≤ length (drop s J) = p.near in omega (arith, length-drop s J);
          under = rw (take-add s q J, any_append (λ r. not (precedes (take k r) (take k row))) (take s J) (take q (drop s J)), b) p.under;
          stops = λ h. rw get_or-drop at (p.stops (omega (arith, length-drop s J)));
        }

    -- what a row is at its place
    pub data RowPlaced (p : ℕ) (full : Bool) : Type 0 where
      stands : p < length J → alike k row (get_or J p []) ≡ true → known k row J ≡ true → clashes k row J ≡ not (same row (get_or J p [])) → row_joins k (drop p J) row full ≡ as_known (same row (get_or J p [])) → RowPlaced p full
      fresh : known k row J ≡ false → clashes k row J ≡ false → row_joins k (drop p J) row full ≡ as_new full → RowPlaced p full

    module _ (w : ℕ) (wide : (r : Row) → Has r J → length (take k r) ≡ w) (a : Ascending (take k) J) (long : length (take k row) ≡ w) (p : ℕ) (v : PlaceOf k J row p) (full : Bool) where
      pub row_placed : RowPlaced p full
      unfolding row_joins misplaced
      row_placed =
          by (ltb p (length J))
          (λ (f : ltb p (length J) ≡ true).
          let h : p < length J = ltb-true p (length J) f in
          let x = get_or J p [] in
          by (precedes (take k row) (take k x))
          (λ (u : precedes (take k row) (take k x) ≡ true). let n = place-new k J row p a v.under h u in fresh n.0 n.1 (rw (drop-cons J p [] h, u)))
          (λ (u : precedes (take k row) (take k x) ≡ false).
          let e : alike k row x ≡ true = neither-same (take k row) (take k x) (long ∙ sym (wide x (has-get_or J p [] h))) u (v.stops h) in
          let n = row-place-known k J row p a v.under h e in
          stands h e n.0 n.1 (rw (drop-cons J p [] h, u))))
          (λ (f : ltb p (length J) ≡ false).
          let c : p ≤ length J = v.near in
          let e : p ≡ length J = omega (arith, ltb-false p (length J) f) in
          let n = place_end k J row p a v.under e in
          let m : length J ≤ p = omega arith in
          fresh n.0 n.1 (rw (drop_of_length-le J {i = p} m)))

    -- the number of a row whose key is not above it
    pub place-number : (limit count p : ℕ) (above : Rows) → known k row above ≡ false → RowPlaced p (leb limit count) → number_of (row_joins k (drop p J) row (leb limit count)) ≡ place_fault k limit J count above row
    unfolding place_fault
    place-number limit count p above o (stands h e x y z) = rw (z, o, x, y) (pick (same row (get_or J p [])))
      where
        pick : (b : Bool) → number_of (as_known b) ≡ 0 orelse 4 given not b
        pick true = refl
        pick false = refl
    place-number limit count p above o (fresh x y z) = rw (z, o, x, y) (pick (leb limit count))
      where
        pick : (b : Bool) → number_of (as_new b) ≡ 3 given b orelse 0
        pick true = refl
        pick false = refl

    -- a key that is repeated has neither number
    pub place-again : (limit count : ℕ) (above : Rows) → known k row above ≡ true → place_fault k limit J count above row ≡ 0
    unfolding place_fault
    place-again limit count above o = by (known k row J) (λ e. rw (o, e)) (λ e. rw (o, e))

-- i rows are judged, at rows of the joined table are passed, count places are taken
pub record Walk (k : ℕ) (joined t : Rows) (at count i : ℕ) : Type 0 where
  pub near : at ≤ length joined
  pub order : Ascending (take k) (take i t)
  pub behind : late (take k) (take i t) (take k (get_or t i [])) ≡ false → late (take k) (take at joined) (take k (get_or t i [])) ≡ false
  pub counted : count ≡ length (united (take k) joined (take i t))

pub walk_start : (k : ℕ) (joined t : Rows) → Walk k joined t 0 (length joined) 0
unfolding united any
walk_start k joined t = record { near = omega arith; order = tt; behind = λ h. refl; counted = refl }

-- row i, in order, at its place p in the joined table
module _ (k w : ℕ) (joined t : Rows) (wide : (r : Row) → Has r joined → length (take k r) ≡ w) (a : Ascending (take k) joined)
    (at count i : ℕ) (v : Walk k joined t at count i) (h : i < length t) (long : length (take k (get_or t i [])) ≡ w)
    (o : late (take k) (take i t) (take k (get_or t i [])) ≡ false) (p : ℕ) (u : PlaceOf k joined (get_or t i []) p) where
  abbrev row : Row
  row = get_or t i []

  abbrev so_far : Rows
  so_far = united (take k) joined (take i t)

  one_more : take (i + 1) t ≡ take i t ++ (row ∷ [])
  one_more = rw (add-one i, take-suc t i [] h)

  next-order : Ascending (take k) (take (i + 1) t)
  next-order = rw one_more (ascending-snoc (take k) (take i t) row v.order o)

  next-behind : late (take k) (take (i + 1) t) (take k (get_or t (i + 1) [])) ≡ false → late (take k) (take p joined) (take k (get_or t (i + 1) [])) ≡ false
  unfolding misplaced
  next-behind e =
      late-more (take k) (take p joined) row (take k (get_or t (i + 1) [])) u.under (late-last (take k) (take i t) row (take k (get_or t (i + 1) [])) (rw one_more at e))

  next : (n : ℕ) → n ≡ length (inserted (take k) row so_far) → Walk k joined t p n (i + 1)
  next n e =
      record {
        near = u.near;
        order = next-order;
        behind = next-behind;
        counted = e ∙ sym (ap (λ (l : Rows). length (united (take k) joined l)) one_more ∙ ap length (united-snoc (take k) joined (take i t) row));
      }

  apart : known k row joined ≡ false → (r : Row) → Has r so_far → precedes (take k row) (take k r) ≡ false → precedes (take k r) (take k row) ≡ true
  apart e r m q =
      ⊎_elim
      (λ (n : Has r joined). by (precedes (take k r) (take k row)) (λ z. z)
      (λ z. clash (neither-same (take k row) (take k r) (long ∙ sym (wide r n)) q z) (any-no (alike k row) joined e r n)))
      (λ (n : Has r (take i t)). late-has (take k) (take i t) (take k row) o r n)
      (united-has (take k) r joined (take i t) m)

  new-count : known k row joined ≡ false → Walk k joined t p (count + 1) (i + 1)
  new-count e = next (count + 1) (let c : count ≡ length so_far = v.counted in omega (arith, length-new (take k) row so_far (apart e)))

  kept-count : (there : p < length joined) → alike k row (get_or joined p []) ≡ true → Walk k joined t p (count + 0) (i + 1)
  kept-count there e =
      next (count + 0)
      (let c : count ≡ length so_far = v.counted in
      let s : inserted (take k) row so_far ≡ so_far = inserted-known (take k) row (get_or joined p []) so_far (ascending-united (take k) joined (take i t) a)
      (united-old (take k) (get_or joined p []) joined (take i t) (has-get_or joined p [] there)) (same-eq (take k row) (take k (get_or joined p [])) e) in
      omega (arith, ap length s))

  abbrev new_of : Result Bool Refusal → Bool
  new_of (Ok new) = new
  new_of (Err r) = false

  pub walk-on : (full new : Bool) → row_joins k (drop p joined) row full ≡ Ok new → Walk k joined t p (count + cond new 1 0) (i + 1)
  walk-on full new e = go (row_placed k row joined w wide a long p u full)
    where
      as-fresh : (b : Bool) → as_new b ≡ Ok new → new ≡ true
      as-fresh true z = let n : ◌≡◌ {A = ℕ} 3 0 = ap number_of z in absurd (omega (arith, n))
      as-fresh false z = sym (ap new_of z)

      as-standing : (b : Bool) → as_known b ≡ Ok new → new ≡ false
      as-standing true z = sym (ap new_of z)
      as-standing false z = let n : ◌≡◌ {A = ℕ} 4 0 = ap number_of z in absurd (omega (arith, n))

      go : RowPlaced k row joined p full → Walk k joined t p (count + cond new 1 0) (i + 1)
      go (stands h q x y z) = let n : new ≡ false = as-standing (same row (get_or joined p [])) (sym z ∙ e) in rw n (kept-count h q)
      go (fresh x y z) = let n : new ≡ true = as-fresh full (sym z ∙ e) in rw n (new-count x)

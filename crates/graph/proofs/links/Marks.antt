-- Values and marks by index: what stands at an index, and that this determines them. Assumes nothing.
use mathlib.Core.Path.{◌≡◌, refl, sym, ap, ◌∙◌}
use mathlib.Core.Logic.{◌≢◌}
use mathlib.Core.Bool.{Bool, true, false, cond}
use mathlib.Core.List.{List, [], ◌∷◌, ◌++◌, map}
use Prim.Native.Nat.{ℕ, zero, suc, ◌+◌, ◌-◌, ◌≤◌, ◌<◌}
use native.Mathlib.Omega.{arith}
use lib.ListN.{length, get_or, set, replicate, length-append, length-replicate, get_or-append, length-map}
use lib.Seq.{ext_get_or, set_out, get_or-set_same, get_or-set_other}
use Rattle.std.proofs.lemmas.List.{get_or_append_left, get_or-append_right}
use Rattle.lists.specs.Lists.{mem, ◌among◌}
use Rattle.record.specs.Record.{Record, names}
use Rattle.record.specs.Stored.{padded}
use Rattle.lists.proofs.Lists.{by, clash, is-by, le-by, get_or-mapped}
use Rattle.lists.proofs.Arrays.{get_or-zeros}
use Rattle.graph.specs.links.Marks.{name_at, values_of, marks_of}
use Rattle.graph.specs.links.Reach.{On, Off}
use Rattle.lists.proofs.Tests.{bit-on}
use Rattle.graph.proofs.links.Names.{get_or-among}

-- a bound on all values stays, wherever one below it is set
pub set_below : (l : List ℕ) (i v b : ℕ) → v < b → ((q : ℕ) → get_or l q 0 < b) → (q : ℕ) → get_or (set l i v) q 0 < b
set_below l i v b k f q =
    is-by q i
    (λ e. le-by (length l) i (λ h. rw (set_out l i v h) (f q)) (λ h. rw (e, get_or-set_same l i v 0 h) k))
    (λ e. rw (get_or-set_other l i q v 0 e) (f q))

past_end : (f : ℕ → ℕ) (l : List ℕ) (c y : ℕ) → length l ≤ y → get_or (map f l ++ replicate c 0) y 0 ≡ 0
past_end f [] c y h = get_or-zeros c y
past_end f (x ∷ l) c zero h = absurd (omega arith)
past_end f (x ∷ l) c (suc y) h = past_end f l c y (omega arith)

-- INIT's index
pub name-zero : (R : Record) → name_at R 0 ≡ 0
unfolding names
name-zero R = refl

module _ (R : Record) (value : ℕ → ℕ) where
  pub values-size : length (names R) ≤ 128 → length (values_of R value) ≡ 128
  unfolding values_of padded
  values-size h =
      let e = length-map (names R) value in
      rw (length-append, length-replicate, e) (omega arith)

  pub values-at : (y : ℕ) → y < length (names R) → get_or (values_of R value) y 0 ≡ value (name_at R y)
  unfolding values_of padded
  values-at y h =
      rw (get_or-append (map value (names R)) (replicate (128 - length (map value (names R))) 0) 0 y (omega (arith, length-map (names R) value)))
      (get_or-mapped value (names R) y 0 0 h)

  pub values-past : (y : ℕ) → length (names R) ≤ y → get_or (values_of R value) y 0 ≡ 0
  unfolding values_of padded
  values-past y h = past_end value (names R) (128 - length (map value (names R))) y h

  -- What stands at each index determines the values.
  pub values-are : (m : List ℕ) → length (names R) ≤ 128 → length m ≡ 128
      → ((y : ℕ) → y < length (names R) → get_or m y 0 ≡ value (name_at R y)) → ((y : ℕ) → length (names R) ≤ y → get_or m y 0 ≡ 0) → m ≡ values_of R value
  values-are m few size f z =
      ext_get_or 0 m (values_of R value) (size ∙ sym (values-size few))
      (λ y h. le-by (length (names R)) y (λ k. z y k ∙ sym (values-past y k)) (λ k. f y k ∙ sym (values-at y k)))

-- what a loop that fills in values by index keeps
pub record Filled (R : Record) (value : ℕ → ℕ) (x : ℕ) (r : List ℕ) : Type 0 where
  pub done : (y : ℕ) → y < x → get_or r y 0 ≡ value (name_at R y)
  pub past : (y : ℕ) → x ≤ y → get_or r y 0 ≡ 0

pub filled-start : (R : Record) (value : ℕ → ℕ) → Filled R value 0 (replicate 128 0)
filled-start R value = record { done = λ y h. absurd (omega arith); past = λ y h. get_or-zeros 128 y }

pub filled-step : (R : Record) (value : ℕ → ℕ) (x : ℕ) (r : List ℕ) (v : ℕ) → x < length r → v ≡ value (name_at R x) → Filled R value x r
    → Filled R value (x + 1) (set r x v)
filled-step R value x r v l e g = record {
  done = λ y h. is-by y x (λ q. rw (q, get_or-set_same r x v 0 l) e) (λ q. rw (get_or-set_other r x y v 0 q) (g.done y (omega (arith, q))));
  past = λ y h. let n : y ≢ x = λ q. omega arith in rw (get_or-set_other r x y v 0 n) (g.past y (omega arith));
}

pub filled-end : (R : Record) (value : ℕ → ℕ) (x : ℕ) (r : List ℕ) → length (names R) ≤ 128 → length r ≡ 128 → x ≡ length (names R) → Filled R value x r
    → r ≡ values_of R value
filled-end R value x r few size e g = values-are R value r few size (λ y h. g.done y (omega arith)) (λ y h. g.past y (omega arith))

pub values_same : (R : Record) (f g : ℕ → ℕ) → length (names R) ≤ 128 → ((x : ℕ) → x among names R → f x ≡ g x) → values_of R f ≡ values_of R g
values_same R f g few h =
    values-are R g (values_of R f) few (values-size R f few) (λ y l. values-at R f y l ∙ h (name_at R y) (get_or-among (names R) y l)) (values-past R f)

-- either a mark stands or not
pub on-by {ℓ} : {P : Type ℓ} (m : List ℕ) (y : ℕ) → (On m y → P) → (Off m y → P) → P
on-by m y = is-by (get_or m y 0) 1

bit-low : (b : Bool) → cond {A = ℕ} b 1 0 ≤ 1
bit-low true = omega arith
bit-low false = omega arith

module _ (R : Record) (test : ℕ → Bool) where
  pub marks-size : length (names R) ≤ 128 → length (marks_of R test) ≡ 128
  unfolding marks_of
  marks-size = values-size R (λ x. cond (test x) 1 0)

  pub marks-at : (y : ℕ) → y < length (names R) → get_or (marks_of R test) y 0 ≡ cond (test (name_at R y)) 1 0
  unfolding marks_of
  marks-at = values-at R (λ x. cond (test x) 1 0)

  pub marks-past : (y : ℕ) → length (names R) ≤ y → get_or (marks_of R test) y 0 ≡ 0
  unfolding marks_of
  marks-past = values-past R (λ x. cond (test x) 1 0)

  pub marks-low : (y : ℕ) → get_or (marks_of R test) y 0 ≤ 1
  marks-low y = le-by (length (names R)) y (λ k. omega (arith, marks-past y k)) (λ k. omega (arith, marks-at y k, bit-low (test (name_at R y))))

  pub marks-on : (y : ℕ) → On (marks_of R test) y → (y < length (names R)) × (test (name_at R y) ≡ true)
  marks-on y o = le-by (length (names R)) y
      (λ k. absurd (omega (arith, marks-past y k)))
      (λ k. (k, bit-on (test (name_at R y)) (sym (marks-at y k) ∙ o)))

  pub on-marks : (y : ℕ) → y < length (names R) → test (name_at R y) ≡ true → On (marks_of R test) y
  on-marks y l e = marks-at y l ∙ rw e

  -- Marks of at most 1 that stand just where the test holds are the test's.
  pub marks-are : (m : List ℕ) → length (names R) ≤ 128 → length m ≡ 128 → ((y : ℕ) → get_or m y 0 ≤ 1)
      → ((y : ℕ) → On m y → (y < length (names R)) × (test (name_at R y) ≡ true))
      → ((y : ℕ) → y < length (names R) → test (name_at R y) ≡ true → On m y) → m ≡ marks_of R test
  unfolding marks_of
  marks-are m few size low f g =
      values-are R (λ x. cond (test x) 1 0) m few size
      (λ y l. by (test (name_at R y)) (λ e. g y l e ∙ sym (rw e))
      (λ e. let off : Off m y = λ o. clash (f y o).1 e in rw e (omega (arith, low y, off))))
      (λ y l. let off : Off m y = λ o. absurd (omega (arith, (f y o).0)) in omega (arith, low y, off))

pub marks-same : (R : Record) (p q : ℕ → Bool) → length (names R) ≤ 128 → ((x : ℕ) → x among names R → p x ≡ q x) → marks_of R p ≡ marks_of R q
unfolding marks_of
marks-same R p q few h = values_same R _ _ few (λ x i. ap (λ b. cond b 1 0) (h x i))

pub none-marked : (R : Record) → length (names R) ≤ 128 → replicate 128 0 ≡ marks_of R (λ y. mem y [])
unfolding marks_of mem
none-marked R few = values-are R _ (replicate 128 0) few refl (λ y h. get_or-zeros 128 y) (λ y h. get_or-zeros 128 y)

-- ones for all, and zeros after them
pub all-filled : (R : Record) (n : ℕ) (ones : List ℕ) → length (names R) ≤ 128 → n ≡ length (names R) → length ones ≡ n → ((y : ℕ) → y < n → get_or ones y 0 ≡ 1)
    → ones ++ replicate (128 - n) 0 ≡ marks_of R (λ y. mem y (names R))
unfolding marks_of
all-filled R n ones few e size one =
    let zeros : List ℕ = replicate (128 - n) 0 in
    values-are R (λ y. cond (mem y (names R)) 1 0) (ones ++ zeros) few
    (rw (length-append, size, length-replicate {A = ℕ} (128 - n) 0) (omega (arith, e)))
    (λ y h. rw (get_or_append_left ones zeros 0 y (omega (arith, e, size)), get_or-among (names R) y h) (one y (omega (arith, e))))
    (λ y h. get_or-append_right ones zeros n y 0 size (omega (arith, e)) ∙ get_or-zeros (128 - n) (y - n))

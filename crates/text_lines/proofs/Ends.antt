-- The lines of a text: the laws of the loop that finds their ends, and of a loop over lines. Assumes nothing.
use Prim.Native.Nat.{ℕ, suc, ◌+◌, ◌-◌, ◌≤◌, ◌<◌, min}
use mathlib.Core.Path.{◌≡◌, refl, ap, sym, ◌∙◌}
use mathlib.Core.Bool.{Bool, true, false}
use Rattle.std.specs.Prelude.{◌==◌, Option, Some, None}
use Rattle.std.specs.List.{position, position_or_len}
use mathlib.Core.Logic.{◌≢◌}
use mathlib.Core.List.{List, [], ◌∷◌, ◌++◌}
use native.Mathlib.Omega.{arith}
use borrow.Author.Tests.{eqb-true, eqb-false, ne_eqb, ltb-true, ltb-false, lt-ltb}
use lib.Dec.{eqb, ltb}
use lib.ListN.{length, get_or, take, drop, drop_of_length-le, length-drop}
use lib.Seq.{drop-cons, drop-drop}
use Rattle.lists.specs.Lists.{mem}
use Rattle.lists.proofs.Lists.{by, or-no-l, or-no-r}
use Rattle.text_forms.proofs.Forms.{Ended}
use Rattle.text_lines.specs.Lines.{joined, lines, first_line}
use Rattle.std.proofs.lemmas.List.{take_rest}
use Rattle.std.proofs.lemmas.List.Sums.{position_or_len_is}
use Rattle.memchr.specs.Find.{IsFirstByte}

not-true : (b : Bool) → (b ≡ true → ⊥) → b ≡ false
not-true true n = absurd (n refl)
not-true false n = refl

ltb-irrefl : (n : ℕ) → ltb n n ≡ false
ltb-irrefl n = by (ltb n n) (λ (e : ltb n n ≡ true). let l : n < n = ltb-true n n e in absurd (omega arith)) (λ (e : ltb n n ≡ false). e)

-- the search for an end
abbrev ends : ℕ → Bool
ends c = c == 10

before-end : (s : List ℕ) → length (first_line s) ≡ min (suc (position_or_len ends s)) (length s)
unfolding first_line
before-end [] = omega arith
before-end (c ∷ s) = by (eqb c 10) (λ (e : eqb c 10 ≡ true). rw e (omega arith)) (λ (e : eqb c 10 ≡ false). rw e (omega (arith, before-end s)))

-- the first byte that passes a test stands at its position
pub first-position : (test : ℕ → Bool) (s : List ℕ) (r : Option ℕ) → IsFirstByte test s r → r ≡ position test s
first-position test s None h =
    let e : position_or_len test s ≡ length s = position_or_len_is test s (length s) 0 (omega arith) (λ k l. not-true _ (h k (omega arith) l)) (λ l. absurd (omega arith)) in
    rw (e, ltb-irrefl (length s)) refl
first-position test s (Some k) h =
    let b = h.0 in
    let e : position_or_len test s ≡ k = position_or_len_is test s k 0 (omega (arith, b.high)) (λ j l. not-true _ (b.before j (omega arith) l)) (λ l. h.1) in
    rw (e, lt-ltb k (length s) b.high) refl

end-some : (s : List ℕ) {place : ℕ} → Some place ≡ position ends s → (length (first_line s) ≡ place + 1) × (place < length s)
end-some s {place} h =
    by (ltb (position_or_len ends s) (length s))
    (λ (e : ltb (position_or_len ends s) (length s) ≡ true).
    let l : position_or_len ends s < length s = ltb-true (position_or_len ends s) (length s) e in
    let q : place ≡ position_or_len ends s = (let p = rw e at h in (cc)) in
    (omega (arith, before-end s), omega arith))
    (λ (e : ltb (position_or_len ends s) (length s) ≡ false). let p = rw e at h in let z : ⊥ = cc in absurd z)

end-none : (s : List ℕ) → None ≡ position ends s → length (first_line s) ≡ length s
end-none s h =
    by (ltb (position_or_len ends s) (length s))
    (λ (e : ltb (position_or_len ends s) (length s) ≡ true). let p = rw e at h in (cc))
    (λ (e : ltb (position_or_len ends s) (length s) ≡ false). omega (arith, before-end s, ltb-false (position_or_len ends s) (length s) e))

module _ (s : List ℕ) (from : ℕ) where
  pub end-past : length s ≤ from → from ≡ from + length (first_line (drop from s))
  unfolding first_line
  end-past h = rw (drop_of_length-le s {i = from} h) (omega arith)

  module _ (h : from < length s) where
    pub end-found : {place : ℕ} → Some place ≡ position ends (take (length s - from) (drop from s)) → (from + place + 1 ≡ from + length (first_line (drop from s))) × (from + place < length s)
    end-found {place} e =
        let q : Some place ≡ position ends (drop from s) = rw (take_rest s from) at e in
        let r = end-some (drop from s) q in
        (omega (arith, r.0), omega (arith, r.1, length-drop from s))

    pub end-missing : None ≡ position ends (take (length s - from) (drop from s)) → length s ≡ from + length (first_line (drop from s))
    end-missing e =
        let q : None ≡ position ends (drop from s) = rw (take_rest s from) at e in
        omega (arith, end-none (drop from s) q, length-drop from s)

-- the lines are the first line and the lines of the rest
first_of : (c : ℕ) (s : List ℕ) → lines (c ∷ s) ≡ first_line (c ∷ s) ∷ lines (drop (length (first_line (c ∷ s))) (c ∷ s))
unfolding lines first_line
first_of c [] = by (eqb c 10) (λ (e : eqb c 10 ≡ true). rw e) (λ (e : eqb c 10 ≡ false). rw e)
first_of c (d ∷ s) =
    by (eqb c 10)
    (λ (e : eqb c 10 ≡ true). rw e)
    (λ (e : eqb c 10 ≡ false). rw e (ap (joined c) (first_of d s)))

find-some : (c : ℕ) (s : List ℕ) → 0 < length (first_line (c ∷ s))
unfolding first_line
find-some c s = by (eqb c 10) (λ (e : eqb c 10 ≡ true). rw e (omega arith)) (λ (e : eqb c 10 ≡ false). rw e (omega arith))

first_short : (s : List ℕ) → length (first_line s) ≤ length s
unfolding first_line
first_short [] = omega arith
first_short (c ∷ s) = by (eqb c 10) (λ (e : eqb c 10 ≡ true). rw e (omega arith)) (λ (e : eqb c 10 ≡ false). rw e (omega (arith, first_short s)))

pub first_taken : (s : List ℕ) → take (length (first_line s)) s ≡ first_line s
unfolding first_line
first_taken [] = refl
first_taken (c ∷ s) = by (eqb c 10) (λ (e : eqb c 10 ≡ true). rw e) (λ (e : eqb c 10 ≡ false). rw e (ap (λ (l : List ℕ). c ∷ l) (first_taken s)))

lines-first : (s : List ℕ) → s ≢ [] → lines s ≡ first_line s ∷ lines (drop (length (first_line s)) s)
lines-first [] h = absurd (h refl)
lines-first (c ∷ s) h = first_of c s

-- A loop over the lines of a text: the line that starts at `from` and ends at `end`, and the lines after it.
pub record NextLine (s : List ℕ) (from end : ℕ) : Type 0 where
  pub forward : from < end
  pub inside : end ≤ length s
  pub lines_are : lines (drop from s) ≡ take (end - from) (drop from s) ∷ lines (drop end s)

pub next-line : (s : List ℕ) (from : ℕ) {end : ℕ} → from < length s → end ≡ from + length (first_line (drop from s)) → NextLine s from end
next-line s from {end} h e =
    let d : drop from s ≡ get_or s from 0 ∷ drop (suc from) s = drop-cons s from 0 h in
    let p : 0 < length (first_line (drop from s)) = rw d (find-some (get_or s from 0) (drop (suc from) s)) in
    let l : length (first_line (drop from s)) ≤ length (drop from s) = first_short (drop from s) in
    let t : end - from ≡ length (first_line (drop from s)) = omega arith in
    record {
      forward = omega arith;
      inside = omega (arith, length-drop from s);
      lines_are = rw (t, first_taken (drop from s), e, ← drop-drop (length (first_line (drop from s))) from s) (lines-first (drop from s) (λ z. absurd (omega (arith, ap length z, ap length d))));
    }

pub no_lines : (s : List ℕ) (from : ℕ) → length s ≤ from → lines (drop from s) ≡ []
unfolding lines
no_lines s from h = rw (drop_of_length-le s {i = from} h)

-- a walk along the lines: where nothing is left, and the next line
pub walked-all : (s : List ℕ) → eqb (length s) 0 ≡ true → (lines s ≡ []) × (s ≡ [])
unfolding lines
walked-all [] h = (refl, refl)
walked-all (c ∷ s) h = absurd (omega (arith, eqb-true (length (c ∷ s)) 0 h))

pub walked-line : (s : List ℕ) → eqb (length s) 0 ≡ false → {end : ℕ} → end ≡ 0 + length (first_line s) → NextLine s 0 end
walked-line s h e = let n : length s ≢ 0 = eqb-false (length s) 0 h in next-line s 0 (omega arith) e

-- A text that ends with its only byte 10 is one line.
pub ended-line : (inner rest : List ℕ) → mem 10 inner ≡ false → lines ((inner ++ (10 ∷ [])) ++ rest) ≡ (inner ++ (10 ∷ [])) ∷ lines rest
unfolding lines mem
ended-line [] rest h = refl
ended-line (c ∷ inner) rest h =
    let n : 10 ≢ c = eqb-false 10 c (or-no-l (eqb 10 c) (mem 10 inner) h) in
    rw (ne_eqb c 10 (λ e. n (sym e)), ended-line inner rest (or-no-r (eqb 10 c) (mem 10 inner) h))

pub line-of-ended : (text rest : List ℕ) → Ended text → lines (text ++ rest) ≡ text ∷ lines rest
line-of-ended text rest e = rw e.is (ended-line e.inner rest e.plain)

-- the lines are all of the text
unfoldable pub concat : List (List ℕ) → List ℕ
concat [] = []
concat (l ∷ ls) = l ++ concat ls

concat-joined : (c : ℕ) (ls : List (List ℕ)) → concat (joined c ls) ≡ c ∷ concat ls
unfolding concat
concat-joined c [] = refl
concat-joined c (l ∷ ls) = refl

pub lines-all : (s : List ℕ) → concat (lines s) ≡ s
unfolding lines concat
lines-all [] = refl
lines-all (c ∷ s) =
    by (eqb c 10)
    (λ (e : eqb c 10 ≡ true). rw (e, lines-all s))
    (λ (e : eqb c 10 ≡ false). rw e (concat-joined c (lines s) ∙ ap (λ (l : List ℕ). c ∷ l) (lines-all s)))

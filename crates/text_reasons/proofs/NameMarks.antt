-- The marks of a row of names, one name after the other, as the code pushes them. Assumes nothing.
use mathlib.Core.Path.{◌≡◌, refl, sym, ap, ◌∙◌}
use mathlib.Core.Bool.{false}
use mathlib.Core.List.{List, [], ◌∷◌, ◌++◌, append_assoc, append-nil}
use Prim.Native.Nat.{ℕ, ◌+◌, ◌*◌, ◌≤◌, ◌<◌}
use native.Mathlib.Omega.{arith}
use native.Mathlib.Numerals.{add-one}
use borrow.Author.Tests.{ne_eqb}
use lib.Dec.{eqb}
use lib.ListN.{length, get_or, take, length-append}
use lib.Seq.{take-suc, length-take-le}
use Rattle.std.specs.Prelude.{flat_map}
use Rattle.text_forms.specs.Spelling.{bytes}
use Rattle.text_reasons.specs.ReasonLine.{name_marks}
use Rattle.text_reasons.specs.Rows.{form_limit, name_mark}

flat-snoc : (f : ℕ → List ℕ) (row : List ℕ) (y : ℕ) → flat_map f (row ++ (y ∷ [])) ≡ flat_map f row ++ f y
flat-snoc f [] y = append-nil (f y)
flat-snoc f (x ∷ row) y = ap (λ l. f x ++ l) (flat-snoc f row y) ∙ sym (append_assoc (f x) (flat_map f row) (f y))

marks-snoc : (row : List ℕ) (y : ℕ) → name_marks (row ++ (y ∷ [])) ≡ name_marks row ++ name_mark (length row)
unfolding name_marks bytes
marks-snoc [] y = refl
marks-snoc (x ∷ row) y =
    let later : eqb (length (x ∷ row)) 0 ≡ false = ne_eqb (length (x ∷ row)) 0 (λ e. omega (arith, e)) in
    rw later (ap (λ (l : List ℕ). 64 ∷ l) (flat-snoc (λ y. 44 ∷ 64 ∷ []) row y))

flat-few : (row : List ℕ) → length {A = ℕ} (flat_map (λ y. 44 ∷ 64 ∷ []) row) ≤ 2 * length row
flat-few [] = omega arith
flat-few (x ∷ row) = omega (arith, flat-few row)

pub marks-few : (row : List ℕ) → length (name_marks row) ≤ 2 * length row
unfolding name_marks bytes
marks-few [] = omega arith
marks-few (x ∷ row) = omega (arith, flat-few row)

-- the marks and the numbers of the first i names
pub record Named (names form numbers : List ℕ) (i : ℕ) (marked numbered : List ℕ) : Type 0 where
  pub marks : marked ≡ form ++ name_marks (take i names)
  pub counted : numbered ≡ numbers ++ take i names

module _ (names form numbers : List ℕ) where
  pub named-none : Named names form numbers 0 form numbers
  unfolding name_marks
  named-none = record { marks = sym (append-nil form); counted = sym (append-nil numbers) }

  module _ {i : ℕ} {marked numbered : List ℕ} (n : Named names form numbers i marked numbered) (h : i < length names) where
    marks-next : name_marks (take (i + 1) names) ≡ name_marks (take i names) ++ name_mark i
    marks-next = rw (add-one i, take-suc names i 0 h) (marks-snoc (take i names) (get_or names i 0) ∙ rw (length-take-le i names (omega arith)) refl)

    pub named-room : length form + 2 * length names ≤ form_limit → {mark : List ℕ} → mark ≡ name_mark i → length marked + length mark ≤ form_limit
    named-room f {mark} m =
        let a : length (name_marks (take (i + 1) names)) ≡ length (name_marks (take i names)) + length mark =
        ap length marks-next ∙ length-append (name_marks (take i names)) (name_mark i) ∙ rw m refl in
        let b : length marked ≡ length form + length (name_marks (take i names)) = ap length n.marks ∙ length-append form (name_marks (take i names)) in
        omega (arith, marks-few (take (i + 1) names), length-take-le (i + 1) names (omega arith))

    pub named-next : {x : ℕ} {mark next next-numbers : List ℕ} → x ≡ get_or names i 0 → mark ≡ name_mark i
        → next ≡ marked ++ mark → next-numbers ≡ numbered ++ (x ∷ []) → Named names form numbers (i + 1) next next-numbers
    named-next {x} e m p q = record {
      marks = p ∙ rw (n.marks, m, marks-next) (append_assoc form (name_marks (take i names)) (name_mark i));
      counted = q ∙ rw (n.counted, add-one i, take-suc names i 0 h, ← e) (append_assoc numbers (take i names) (x ∷ []));
    }

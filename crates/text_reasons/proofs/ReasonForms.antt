-- The form of a reason's line, put together row by row, and how long it is then. Assumes nothing.
use mathlib.Core.Path.{◌≡◌, ap, ◌∙◌}
use mathlib.Core.List.{List, ◌++◌}
use Prim.Native.Nat.{ℕ, ◌+◌, ◌≤◌}
use native.Mathlib.Omega.{arith}
use lib.ListN.{length, length-append}
use Rattle.text_reasons.specs.ReasonLine.{name_marks}
use Rattle.text_reasons.proofs.NameMarks.{marks-few}

-- what a form is after a word and the marks of names
pub row-after : (before word marks : List ℕ) {old new : List ℕ} → old ≡ before → new ≡ old ++ word ++ marks → new ≡ before ++ word ++ marks
row-after before word marks e p = p ∙ ap (λ (l : List ℕ). l ++ word ++ marks) e

-- how long it is then, if the word has so many bytes
pub form-few : (old word names : List ℕ) {new : List ℕ} → new ≡ old ++ word ++ name_marks names
    → (few size : ℕ) → length old ≤ few → length word ≡ size → length names ≤ 128 → length new ≤ few + size + 256
form-few old word names {new} p few size h n k =
    let a : length new ≡ length (old ++ word) + length (name_marks names) = ap length p ∙ length-append (old ++ word) (name_marks names) in
    omega (arith, length-append old word, marks-few names)

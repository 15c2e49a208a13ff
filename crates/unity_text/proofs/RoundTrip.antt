-- Answers written line by line come to what they come to as a table; a number that does not fit 32 bits is out of range. Assumes nothing.
use mathlib.Core.Path.{◌≡◌, refl, ap, ◌∙◌}
use mathlib.Core.Bool.{Bool, true}
use mathlib.Core.List.{List, [], ◌∷◌, map}
use mathlib.Core.Option.{some}
use Prim.Native.Nat.{ℕ, zero, suc, ◌+◌, ◌≤◌, ◌<◌}
use native.Mathlib.Omega.{arith}
use borrow.Author.Tests.{leb-true, le-leb, le-ltb}
use lib.ListN.{length, get_or}
use Rattle.text_lines.specs.Line.{line_limit}
use Rattle.lists.specs.Lists.{all}
use Rattle.lists.proofs.Lists.{by, and_l, and_r}
use Rattle.text_forms.specs.Spelling.{bytes, number_spelling, decimal_notation}
use Rattle.text_forms.specs.Form.{is_mark, spelling_in}
use Rattle.text_forms.proofs.Lawful.{decimal-lawful}
use Rattle.text_forms.proofs.Forms.{slots, separate, spelled-all, taken-fill, fill-ended, room, fill-room}
use Rattle.text_lines.specs.Lines.{lines}
use Rattle.text_lines.proofs.Ends.{line-of-ended}
use Rattle.text.specs.Text.{joined_lines}
use Rattle.unity_table.specs.declared.Weights.{Weights}
use Rattle.unity_table.specs.Unity.{weights_of, out_of_range, weights_fault, unity_of}
use Rattle.unity_table.proofs.Sums.{in-range}
use Rattle.unity_text.specs.Text.{weights_form, numbers_in, in_form, weights_in, weights_line_fault, text_unity, weights_numbers, weights_line, weights_text, is_short}
use Rattle.unity_text.proofs.Faults.{text-formed}
use Rattle.unity_text.proofs.Limit.{wordless-form, one_line_lem}

-- A number that does not fit 32 bits.
too_large : (ns : List ℕ) (k : ℕ) → k < 3 → 4294967296 ≤ get_or ns k 0 → out_of_range (weights_of ns) ≡ true
too_large ns k p h = by (out_of_range (weights_of ns)) (λ e. e) (λ e. absurd (over k p h (in-range (weights_of ns) e).together (in-range (weights_of ns) e).limited))
  where
    over : (k : ℕ) → k < 3 → 4294967296 ≤ get_or ns k 0 → get_or ns 0 0 + get_or ns 1 0 ≤ get_or ns 2 0 → get_or ns 2 0 ≤ 524280 → ⊥
    over zero p h t m = omega arith
    over (suc zero) p h t m = omega arith
    over (suc (suc zero)) p h t m = omega arith
    over (suc (suc (suc k))) p h t m = omega arith

pub too-large-refused : (above : List (List ℕ)) (line ns : List ℕ) (last : Bool) (k : ℕ) → numbers_in line ≡ some ns → k < 3 → 4294967296 ≤ get_or ns k 0 → weights_line_fault above line last ≡ 2
unfolding weights_line_fault weights_fault
too-large-refused above line ns last k e p h = rw (e, too_large ns k p h)

form-separate : separate decimal_notation weights_form ≡ true
unfolding weights_form bytes separate is_mark spelling_in number_spelling
form-separate = refl

form-slots : slots weights_form ≡ 3
unfolding weights_form bytes slots is_mark
form-slots = refl

form-room : room weights_form ≤ line_limit
unfolding weights_form bytes room is_mark
form-room = omega arith

-- a line with numbers of 32 bits is
pub short-line : (a : Weights) → a.greatest < 4294967296 → a.silent < 4294967296 → a.total < 4294967296 → is_short a ≡ true
short-line a p q r = le-leb (length (weights_line a)) line_limit (omega (arith, form-room, fill-room decimal-lawful weights_form (weights_numbers a) (p, (q, (r, tt)))))

numbers-back : (a : Weights) → is_short a ≡ true → numbers_in (weights_line a) ≡ some (weights_numbers a)
unfolding numbers_in
numbers-back a h =
    let ns = weights_numbers a in
    rw (le-ltb line_limit (length (weights_line a)) (leb-true (length (weights_line a)) line_limit h)) (taken-fill decimal-lawful weights_form ns form-separate (spelled-all weights_form ns wordless-form) (rw form-slots))

answers-back : (l : List Weights) → all is_short l ≡ true → map weights_in (map weights_line l) ≡ l
unfolding all
answers-back [] h = refl
answers-back (a ∷ l) h = rw (numbers-back a (and_l (is_short a) (all is_short l) h), answers-back l (and_r (is_short a) (all is_short l) h))

answers-formed : (l : List Weights) → all is_short l ≡ true → all in_form (map weights_line l) ≡ true
unfolding all
answers-formed [] h = refl
answers-formed (a ∷ l) h = rw (numbers-back a (and_l (is_short a) (all is_short l) h)) (answers-formed l (and_r (is_short a) (all is_short l) h))

lines-back : (l : List Weights) → lines (weights_text l) ≡ map weights_line l
unfolding lines joined_lines
lines-back [] = refl
lines-back (a ∷ l) = line-of-ended (weights_line a) (weights_text l) (fill-ended decimal-lawful weights_form (weights_numbers a) one_line_lem) ∙ ap (λ (ls : List (List ℕ)). weights_line a ∷ ls) (lines-back l)

-- The text of some answers comes to what they come to.
pub unity-lines : (l : List Weights) → all is_short l ≡ true → text_unity (weights_text l) ≡ unity_of l
unity-lines l h = text-formed (weights_text l) (map weights_line l) (lines-back l) (answers-formed l h) ∙ ap unity_of (answers-back l h)

-- The laws that the code of marks cites. Assumes nothing.
use Prim.Native.Nat.{ℕ, ◌≤◌, ◌<◌, ◌^◌}
use mathlib.Core.Path.{◌≡◌, refl, ap, ◌∙◌}
use mathlib.Core.Bool.{Bool, true, false, ◌&&◌}
use lib.Pointwise.{pointwise}
use lib.Dec.{eqb}
use mathlib.Core.Logic.{◌≢◌, ◌⊎◌, inl, inr}
use mathlib.Core.List.{List, [], ◌∷◌}
use native.Mathlib.Omega.{arith}
use borrow.Author.Tests.{ne_eqb}
use lib.ListN.{length, take}
use Rattle.std.proofs.Common.{Option, IfSome}
use Rattle.lists.proofs.Lists.{by}
use Rattle.text_forms.specs.decimal.Written.{Written}
use Rattle.text_forms.specs.Spelling.{Spelling, Notation, decimal_notation, number_spelling, word_spelling, starts_with, numeral_of}
use Rattle.text_forms.specs.declared.decimal.Numeral.{Numeral}
use Rattle.text_forms.specs.Form.{words_in, spelling_in, spelling}
use Rattle.text_forms.proofs.Lawful.{lawful, decimal-lawful}

-- the library's test of a word at the start of a text
pub word-starts : (word s : List ℕ) → pointwise eqb word (take (length word) s) ≡ starts_with word s
unfolding starts_with
word-starts [] s = refl
word-starts (c ∷ word) [] = refl
word-starts (c ∷ word) (x ∷ s) = ap (λ (b : Bool). eqb c x && b) (word-starts word s)

-- which marks are of numbers, names and words
module _ (N : Notation) (c : ℕ) where
  pub spells-number : c ≡ 35 → number_spelling ≡ spelling_in N c
  unfolding spelling_in
  spells-number e = rw e

  pub spells-name : c ≡ 64 → N.names ≡ spelling_in N c
  unfolding spelling_in
  spells-name e = rw e

  pub spells-word : c ≢ 35 → c ≢ 64 → {words : List (List ℕ)} → words ≡ words_in N c → word_spelling words ≡ spelling_in N c
  unfolding spelling_in
  spells-word e f q = rw (ne_eqb c 35 e, ne_eqb c 64 f, q)

pub spells-decimal : (c : ℕ) → (c ≡ 35) ⊎ (c ≡ 64) → number_spelling ≡ spelling c
unfolding decimal_notation
spells-decimal c (inl e) = spells-number decimal_notation c e
spells-decimal c (inr e) = spells-name decimal_notation c e

-- what is said of a spelling is said of the mark's
pub numeral-as : {S T : Spelling} → S ≡ T → (s : List ℕ) {r : Option Numeral} → r ≡ numeral_of S s → r ≡ numeral_of T s
numeral-as e s p = rw (← e) p

module _ (c n : ℕ) {S : Spelling} (e : S ≡ spelling c) {text : List ℕ} (q : text ≡ S.write n) where
  text-as : text ≡ (spelling c).write n
  text-as = q ∙ ap (λ (T : Spelling). T.write n) e

  pub length-as : n < 2 ^ 64 → {r : ℕ} → r ≡ length text → (r ≡ length ((spelling c).write n)) × (r ≤ 20)
  length-as h p = let l : length text ≡ length ((spelling c).write n) = ap length text-as in (p ∙ l, omega (arith, (lawful decimal-lawful c).wide n h))

  pub fits-as : (out : List ℕ) → length ((spelling c).write n) ≤ length out → length text ≤ length out
  fits-as out h = rw text-as h

  pub written_as : (out : List ℕ) {r : ℕ} {after : List ℕ} → Written text out r after → Written ((spelling c).write n) out r after
  written_as out w = rw (← text-as) w

-- what is read lies in the text
pub numeral-inside : (S : Spelling) (s : List ℕ) {r : Option Numeral} → r ≡ numeral_of S s → S.size s ≤ length s → IfSome r (λ numeral. numeral.size ≤ length s)
numeral-inside S s e h =
    rw e
    (by (eqb (S.size s) 0)
    (λ (z : eqb (S.size s) 0 ≡ true). rw z tt)
    (λ (z : eqb (S.size s) 0 ≡ false). rw z h))

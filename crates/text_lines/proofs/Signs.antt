-- Forms that a letter of the text rules out. A letter is told by the beginning of a form that it comes after; of a beginning only the marks count, and
-- how many bytes stand between them. Assumes nothing.
use mathlib.Core.Path.{◌≡◌, refl, ap, sym, ◌∙◌}
use mathlib.Core.Bool.{Bool, true, false, cond, not, ◌&&◌}
use mathlib.Core.Logic.{◌≢◌}
use mathlib.Core.List.{List, [], ◌∷◌, ◌++◌, append-nil}
use mathlib.Core.Option.{none}
use Prim.Native.Nat.{ℕ, ◌+◌, ◌-◌, ◌≤◌}
use native.Mathlib.Omega.{arith}
use borrow.Author.Tests.{eqb-true, eqb-false, eq-eqb, ne_eqb, not-true}
use lib.Dec.{eqb}
use lib.ListN.{length, get_or, drop, drop_of_length-le, length-drop}
use lib.Seq.{get_or-drop, drop-drop}
use Rattle.lists.specs.Lists.{all, mem}
use Rattle.lists.proofs.Lists.{by, is-by, clash, and_l, and_r, cons-by, nil-no}
use Rattle.text_forms.specs.decimal.Decimal.{numeral_size, numeral_value, numeral_read, saturated}
use Rattle.std.specs.Prelude.{Some, None}
use Rattle.text_forms.specs.declared.decimal.Numeral.{Numeral}
use Rattle.text_forms.proofs.decimal.Laws.{number_short}
use Rattle.text_forms.specs.Spelling.{Spelling, number_spelling, numeral_of, Notation}
use Rattle.text_forms.specs.Form.{is_mark, spelling_in, number_before, begins_with, taken_in}
use Rattle.text_forms.proofs.decimal.RoundTrip.{size-nothing}
use Rattle.text_forms.proofs.Lawful.{LawfulNotation, lawful}
use Rattle.text_forms.proofs.Forms.{mark-taken, mark-missing, byte-taken, byte-missing, plain}

-- where the beginning of a form ends in a text, if it starts at a place; and the letter of a text after it
module _ (N : Notation) where
  unfoldable pub line-ends : List ℕ → ℕ → List ℕ → ℕ
  line-ends [] at s = at
  line-ends (c ∷ beginning) at s = cond (is_mark c) (line-ends beginning (at + (spelling_in N c).size (drop at s)) s) (line-ends beginning (at + 1) s)

  abbrev pub letter_after : List ℕ → List ℕ → ℕ
  letter_after beginning s = get_or s (line-ends beginning 0 s) 0

  -- a run of bytes without a mark
  ends-plain : (run beginning : List ℕ) (at : ℕ) (s : List ℕ) → plain run ≡ true → line-ends (run ++ beginning) at s ≡ line-ends beginning (at + length run) s
  unfolding line-ends all
  ends-plain [] beginning at s h = let e : at ≡ at + 0 = omega arith in ap (λ (n : ℕ). line-ends beginning n s) e
  ends-plain (c ∷ run) beginning at s h =
      let m : is_mark c ≡ false = not-true (is_mark c) (and_l (not (is_mark c)) (plain run) h) in
      let e : at + 1 + length run ≡ at + length (c ∷ run) = omega arith in
      rw m (ends-plain run beginning (at + 1) s (and_r (not (is_mark c)) (plain run) h) ∙ ap (λ (n : ℕ). line-ends beginning n s) e)

  pub ends-run : (run : List ℕ) (at : ℕ) (s : List ℕ) → plain run ≡ true → line-ends run at s ≡ at + length run
  unfolding line-ends
  ends-run run at s h = ap (λ (l : List ℕ). line-ends l at s) (sym (append-nil run)) ∙ ends-plain run [] at s h

  -- a run and the number after it
  pub ends-number : (run : List ℕ) (mark : ℕ) (beginning : List ℕ) (at : ℕ) (s : List ℕ) {end : ℕ} → plain run ≡ true → is_mark mark ≡ true
      → end ≡ at + length run + (spelling_in N mark).size (drop (at + length run) s) → line-ends (run ++ (mark ∷ beginning)) at s ≡ line-ends beginning end s
  unfolding line-ends
  ends-number run mark beginning at s h m e = ends-plain run (mark ∷ beginning) at s h ∙ rw (m, e)

-- both pass as many bytes
abbrev alike : ℕ → ℕ → Bool
alike y x = cond (is_mark y) (eqb y x) (not (is_mark x))

-- the byte of a form after a beginning passes a test
unfoldable pub byte_after : (ℕ → Bool) → List ℕ → List ℕ → Bool
byte_after test [] [] = false
byte_after test [] (x ∷ form) = test x
byte_after test (y ∷ beginning) [] = false
byte_after test (y ∷ beginning) (x ∷ form) = alike y x && byte_after test beginning form

-- it is another than this letter, or one of these; and no mark
unfoldable pub letter_unlike : List ℕ → ℕ → List ℕ → Bool
letter_unlike beginning letter form = byte_after (λ x. not (is_mark x) && not (eqb letter x)) beginning form

unfoldable pub letter_among : List ℕ → List ℕ → List ℕ → Bool
letter_among keys beginning form = byte_after (λ x. not (is_mark x) && mem x keys) beginning form

-- it is another, or a mark that does not begin so
abbrev refuses : Notation → ℕ → ℕ → Bool
refuses N letter x = cond (is_mark x) (not ((spelling_in N x).begins letter)) (not (eqb letter x))

unfoldable pub letter_other : Notation → List ℕ → ℕ → List ℕ → Bool
letter_other N beginning letter form = byte_after (refuses N letter) beginning form

-- a letter that is none of these
abbrev pub Others : List ℕ → ℕ → Type 0
Others [] x = Unit
Others (key ∷ keys) x = Others keys x × (x ≢ key)

others-not : (keys : List ℕ) (x y : ℕ) → Others keys x → mem y keys ≡ true → x ≢ y
others-not [] x y o h = nil-no y h
others-not (key ∷ keys) x y o h = cons-by y key keys h (λ e q. o.1 (q ∙ e)) (λ k. others-not keys x y o.0 k)

pub first-at : (at : ℕ) (s : List ℕ) → get_or s at 0 ≡ get_or (drop at s) 0 0
first-at at s = let e : at + 0 ≡ at = omega arith in sym (get_or-drop at s 0 0 ∙ ap (λ (n : ℕ). get_or s n 0) e)

module _ (N : Notation) where
  -- one byte of the beginning
  module _ (x : ℕ) (form : List ℕ) (at : ℕ) (s : List ℕ) where
    mark-passed : is_mark x ≡ true → taken_in N form (drop (at + (spelling_in N x).size (drop at s)) s) ≡ none → taken_in N (x ∷ form) (drop at s) ≡ none
    mark-passed m q =
        is-by ((spelling_in N x).size (drop at s)) 0
        (λ z. mark-missing N x form m (drop at s) z)
        (λ z.
        let e : taken_in N form (drop ((spelling_in N x).size (drop at s)) (drop at s)) ≡ none = rw (drop-drop ((spelling_in N x).size (drop at s)) at s) q in
        mark-taken N x form m (drop at s) z ∙ ap (number_before ((spelling_in N x).value (drop at s))) e)

    byte-passed : is_mark x ≡ false → taken_in N form (drop (at + 1) s) ≡ none → taken_in N (x ∷ form) (drop at s) ≡ none
    byte-passed m q =
        by (begins_with x (drop at s))
        (λ (b : begins_with x (drop at s) ≡ true).
        let e : taken_in N form (drop 1 (drop at s)) ≡ none = rw (drop-drop 1 at s) q in
        byte-taken N x form m (drop at s) b ∙ e)
        (λ (b : begins_with x (drop at s) ≡ false). byte-missing N x form m (drop at s) b)

  -- The law: where no form with such a byte in front takes a text with this letter in front, none with such a byte after the beginning takes it there.
  module _ (test : ℕ → Bool) (letter : ℕ) (k : (x : ℕ) (form t : List ℕ) → test x ≡ true → get_or t 0 0 ≡ letter → taken_in N (x ∷ form) t ≡ none) where
    byte-at : (beginning form : List ℕ) (at : ℕ) (s : List ℕ) → get_or s (line-ends N beginning at s) 0 ≡ letter → byte_after test beginning form ≡ true → taken_in N form (drop at s) ≡ none
    unfolding byte_after line-ends
    byte-at [] [] at s e h = clash h refl
    byte-at [] (x ∷ form) at s e h = k x form (drop at s) h (sym (first-at at s) ∙ e)
    byte-at (y ∷ beginning) [] at s e h = clash h refl
    byte-at (y ∷ beginning) (x ∷ form) at s e h =
        by (is_mark y)
        (λ (m : is_mark y ≡ true).
        let g : (eqb y x && byte_after test beginning form) ≡ true = rw m at h in
        rw (← eqb-true y x (and_l (eqb y x) (byte_after test beginning form) g))
        (mark-passed y form at s m (byte-at beginning form (at + (spelling_in N y).size (drop at s)) s (rw m at e) (and_r (eqb y x) (byte_after test beginning form) g))))
        (λ (m : is_mark y ≡ false).
        let g : (not (is_mark x) && byte_after test beginning form) ≡ true = rw m at h in
        byte-passed x form at s (not-true (is_mark x) (and_l (not (is_mark x)) (byte_after test beginning form) g))
        (byte-at beginning form (at + 1) s (rw m at e) (and_r (not (is_mark x)) (byte_after test beginning form) g)))

  -- a byte that is no mark
  other-byte : (x letter : ℕ) (form t : List ℕ) → is_mark x ≡ false → letter ≢ x → get_or t 0 0 ≡ letter → taken_in N (x ∷ form) t ≡ none
  other-byte x letter form [] m n e = byte-missing N x form m [] refl
  other-byte x letter form (d ∷ t) m n e = byte-missing N x form m (d ∷ t) (ne_eqb x d (λ q. n (sym e ∙ sym q)))

  pub unlike_none : (beginning form s : List ℕ) (letter : ℕ) → letter_after N beginning s ≡ letter → letter_unlike beginning letter form ≡ true → taken_in N form s ≡ none
  unfolding letter_unlike
  unlike_none beginning form s letter e h =
      byte-at (λ x. not (is_mark x) && not (eqb letter x)) letter
      (λ x form t g q. other-byte x letter form t (not-true (is_mark x) (and_l (not (is_mark x)) _ g)) (eqb-false letter x (not-true (eqb letter x) (and_r (not (is_mark x)) _ g))) q)
      beginning form 0 s e h

  pub among_none : (keys beginning form s : List ℕ) → Others keys (letter_after N beginning s) → letter_among keys beginning form ≡ true → taken_in N form s ≡ none
  unfolding letter_among
  among_none keys beginning form s o h =
      let letter = letter_after N beginning s in
      byte-at (λ x. not (is_mark x) && mem x keys) letter
      (λ x form t g q. other-byte x letter form t (not-true (is_mark x) (and_l (not (is_mark x)) (mem x keys) g)) (others-not keys letter x o (and_r (not (is_mark x)) (mem x keys) g)) q)
      beginning form 0 s refl h

-- in a lawful notation marks are told too
module _ {N : Notation} (L : LawfulNotation N) where
  mark-refuses : (x : ℕ) (s : List ℕ) → not ((spelling_in N x).begins (get_or s 0 0)) ≡ true → (spelling_in N x).size s ≡ 0
  mark-refuses x [] h = (lawful L x).nothing
  mark-refuses x (d ∷ s) h = (lawful L x).other d s (not-true ((spelling_in N x).begins d) h)

  refused : (x letter : ℕ) (form t : List ℕ) → refuses N letter x ≡ true → get_or t 0 0 ≡ letter → taken_in N (x ∷ form) t ≡ none
  refused x letter form t h e =
      by (is_mark x)
      (λ (m : is_mark x ≡ true). mark-missing N x form m t (mark-refuses x t (rw e (rw m at h))))
      (λ (m : is_mark x ≡ false). other-byte N x letter form t m (eqb-false letter x (not-true (eqb letter x) (rw m at h))) e)

  pub other_none : (beginning form s : List ℕ) (letter : ℕ) → letter_after N beginning s ≡ letter → letter_other N beginning letter form ≡ true → taken_in N form s ≡ none
  unfolding letter_other
  other_none beginning form s letter e h = byte-at N (refuses N letter) letter (λ x form t g q. refused x letter form t g q) beginning form 0 s e h

-- what a spelling that is read, or is not, says of its size
module _ (S : Spelling) (s : List ℕ) where
  not-spelled : None ≡ numeral_of S s → S.size s ≡ 0
  not-spelled h =
      by (eqb (S.size s) 0)
      (λ (e : eqb (S.size s) 0 ≡ true). eqb-true (S.size s) 0 e)
      (λ (e : eqb (S.size s) 0 ≡ false). let q = rw e at h in (cc))

  module _ {numeral : Numeral} (h : Some numeral ≡ numeral_of S s) where
    spelled-some : S.size s ≡ 0 → ⊥
    spelled-some z = let q = rw (eq-eqb (S.size s) 0 z) at h in (cc)

    spelled-is : numeral ≡ record { size = S.size s; value = saturated (S.value s) }
    spelled-is = let q = rw (ne_eqb (S.size s) 0 spelled-some) at h in (cc)

-- the code that finds where a spelling ends
module _ (S : Spelling) (s : List ℕ) (from : ℕ) {t : List ℕ} (e : t ≡ drop from s) where
  abbrev pub SpelledTo : ℕ → Type 0
  SpelledTo end = (end ≡ from + S.size (drop from s)) × (end ≤ from + length s)

  pub spelled-missing : None ≡ numeral_of S t → SpelledTo from
  spelled-missing h = let z : S.size (drop from s) ≡ 0 = not-spelled S (drop from s) (rw e at h) in (omega arith, omega arith)

  pub spelled-ends : {numeral : Numeral} → Some numeral ≡ numeral_of S t → numeral.size ≤ length t → SpelledTo (from + numeral.size)
  spelled-ends {numeral} h l =
      let z : numeral.size ≡ S.size (drop from s) = ap (λ (x : Numeral). x.size) (spelled-is S (drop from s) (rw e at h)) in
      (ap (λ (n : ℕ). from + n) z, omega (arith, ap length e, length-drop from s))

-- of numbers
pub no-numeral : (s : List ℕ) → None ≡ numeral_read s → numeral_size s ≡ 0
unfolding number_spelling
no-numeral s h = not-spelled number_spelling s h

module _ (s : List ℕ) {numeral : Numeral} (h : Some numeral ≡ numeral_read s) where
  pub some-size : numeral_size s ≡ 0 → ⊥
  unfolding number_spelling
  some-size z = spelled-some number_spelling s h z

  pub the-size : numeral.size ≡ numeral_size s
  unfolding number_spelling
  the-size = ap (λ (x : Numeral). x.size) (spelled-is number_spelling s h)

  pub the-value : numeral.value ≡ saturated (numeral_value s)
  unfolding number_spelling
  the-value = ap (λ (x : Numeral). x.value) (spelled-is number_spelling s h)

pub numeral-short : (s : List ℕ) {numeral : Numeral} → Some numeral ≡ numeral_read s → numeral.size ≤ length s
numeral-short s h = omega (arith, the-size s h, number_short s)

-- past the text none starts
pub no-numeral-past : (s : List ℕ) (from : ℕ) → length s ≤ from → (from ≡ from + numeral_size (drop from s)) × (from ≤ from + length s)
no-numeral-past s from h = let e : numeral_size (drop from s) ≡ 0 = rw (drop_of_length-le s {i = from} h) size-nothing in (omega arith, omega arith)

-- where a number ends that starts at `from`, and the end of the text
pub number-near : (s : List ℕ) (from : ℕ) {end : ℕ} → end ≡ from + numeral_size (drop from s) → end ≤ from + (length s - from)
number-near s from e = omega (arith, number_short (drop from s), length-drop from s)

-- The laws of reading the numbers of a form. Assumes nothing.
use mathlib.Core.Path.{◌≡◌, refl, ap, sym, ◌∙◌}
use mathlib.Core.Bool.{true, false}
use mathlib.Core.List.{List, [], ◌∷◌, ◌++◌, map, map-append}
use mathlib.Core.Option.{Option, none, some}
use Prim.Native.Nat.{ℕ, ◌+◌, ◌≤◌, ◌<◌}
use native.Mathlib.Numerals.{add-one}
use native.Mathlib.Omega.{arith}
use borrow.Author.Tests.{ltb-true}
use lib.ListN.{length, get_or, take, drop, set, replicate, length-set, drop_of_length-le}
use lib.Seq.{drop-cons, take_all, take-suc, take-suc-set}
use Rattle.lists.specs.Lists.{all}
use Rattle.lists.proofs.Lists.{by, and_l, and_r}
use Rattle.text_forms.specs.decimal.Decimal.{saturated}
use Rattle.text_forms.proofs.decimal.RoundTrip.{saturated-test, saturated-same}
use Rattle.text_forms.specs.Form.{filled_of}
use Rattle.std.specs.Prelude.{Some, None, Ok, Err}
use Rattle.refusals.specs.declared.Refusal.{Refusal}
use Rattle.refusals.specs.declared.Refusal.TheVariants.{NotInForm}
use Rattle.text_lines.proofs.Says.{word-fits, word-same, word-large, word-refused}
use Rattle.text_lines.specs.Line.{fits_word, word_read}
use Rattle.log_forms.specs.productions.Words.{words_kept, eight_of, words_of}
use Rattle.std.proofs.lemmas.List.{take-map}

-- numbers kept as words while each fits 32 bits
pub record KeptSoFar (numbers words : List ℕ) (i : ℕ) : Type 0 where
  pub all_but : all fits_word numbers ≡ all fits_word (drop i numbers)
  pub same : take i words ≡ take i numbers
  pub words-size : length words ≡ 8
  pub numbers-size : length numbers ≡ 8

module _ (numbers : List ℕ) where
  pub kept-start : length numbers ≡ 8 → KeptSoFar numbers (replicate 8 0) 0
  kept-start h = record { all_but = refl; same = refl; words-size = refl; numbers-size = h }

  module _ (words : List ℕ) (i : ℕ) (w : KeptSoFar numbers words i) (h : i < length numbers) where
    next-number : drop i numbers ≡ get_or numbers i 0 ∷ drop (i + 1) numbers
    next-number = rw add-one (drop-cons numbers i 0 h)

    pub kept_next : {n : ℕ} → Ok n ≡ word_read (get_or numbers i 0) → KeptSoFar numbers (set words i n) (i + 1)
    unfolding all
    kept_next {n} e = record {
      all_but = w.all_but ∙ rw (next-number, word-fits (get_or numbers i 0) e);
      same = rw (add-one, take-suc-set words i n (omega (arith, w.words-size, w.numbers-size)), take-suc numbers i 0 h, w.same, word-same (get_or numbers i 0) e);
      words-size = length-set words i n ∙ w.words-size;
      numbers-size = w.numbers-size;
    }

    pub kept-large : {r : Refusal} → Err r ≡ word_read (get_or numbers i 0) → Err r ≡ words_kept numbers
    unfolding words_kept all
    kept-large e = rw (w.all_but, next-number, word-large (get_or numbers i 0) e) (ap Err (word-refused (get_or numbers i 0) e))

  pub kept-end : (words : List ℕ) (i : ℕ) → KeptSoFar numbers words i → length numbers ≤ i → Ok words ≡ words_kept numbers
  unfolding words_kept all
  kept-end words i w h =
      let e : words ≡ numbers = sym (take_all i words (omega (arith, w.words-size, w.numbers-size))) ∙ w.same ∙ take_all i numbers h in
      rw (w.all_but, drop_of_length-le numbers {i = i} h, e)

-- numbers cut off at 2^32 say the same
saturated-all : (ns : List ℕ) → all fits_word (map saturated ns) ≡ all fits_word ns
unfolding all
saturated-all [] = refl
saturated-all (n ∷ ns) = rw (saturated-test n, saturated-all ns)

saturated-fit : (ns : List ℕ) → all fits_word ns ≡ true → map saturated ns ≡ ns
unfolding all
saturated-fit [] h = refl
saturated-fit (n ∷ ns) h =
    rw (saturated-same n (ltb-true n 4294967296 (and_l (fits_word n) (all fits_word ns) h)), saturated-fit ns (and_r (fits_word n) (all fits_word ns) h))

saturated-kept : (ns : List ℕ) → words_kept (map saturated ns) ≡ words_kept ns
unfolding words_kept
saturated-kept ns =
    by (all fits_word ns)
    (λ (e : all fits_word ns ≡ true). rw (saturated-fit ns e))
    (λ (e : all fits_word ns ≡ false). rw (saturated-all ns, e))

saturated-eight : (ns : List ℕ) → take 8 (map saturated ns ++ replicate 8 0) ≡ map saturated (eight_of ns)
saturated-eight ns = sym (ap (take 8) (map-append saturated ns (replicate 8 0))) ∙ take-map saturated 8 (ns ++ replicate 8 0)

-- a form that takes the bytes, and one that does not
pub words-fit : (o : Option (List ℕ)) {numbers : List ℕ} → Some numbers ≡ filled_of o → words_kept numbers ≡ words_of o
words-fit none e = let z : ⊥ = cc in absurd z
words-fit (some ns) {numbers} e = let q : numbers ≡ take 8 (map saturated ns ++ replicate 8 0) = cc in ap words_kept (q ∙ saturated-eight ns) ∙ saturated-kept (eight_of ns)

pub words-refused : (o : Option (List ℕ)) → None ≡ filled_of o → Err NotInForm ≡ words_of o
words-refused none e = refl
words-refused (some ns) e = let z : ⊥ = cc in absurd z

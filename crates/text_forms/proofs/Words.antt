-- The laws that the code of words cites. Assumes nothing.
use Prim.Native.Nat.{ℕ, suc, ◌+◌, ◌≤◌, ◌<◌}
use mathlib.Core.Path.{◌≡◌, refl, ap, sym, ◌∙◌}
use mathlib.Core.Bool.{true, false}
use lib.Dec.{ltb}
use mathlib.Core.Logic.{◌≢◌}
use mathlib.Core.List.{List, []}
use native.Mathlib.Omega.{arith}
use borrow.Author.Tests.{ne_eqb, ltb-true, ltb-false}
use lib.ListN.{length, get_or, drop, drop_of_length-le, get_or-eq_default, length-map}
use lib.Seq.{drop-cons}
use native.Mathlib.Numerals.{add-one}
use Rattle.std.proofs.Common.{Bor, Some, None}
use Rattle.lists.proofs.Lists.{and_l, and_r, get_or-mapped}
use Rattle.lists.specs.Lists.{all}
use Rattle.text_forms.specs.Spelling.{bytes, Notation, word_place, word_spelling, answer_words, rule_words, starts_with, numeral_of}
use Rattle.text_forms.specs.Words.{word_texts, are_words}
use Rattle.text_forms.specs.decimal.Decimal.{saturated}
use Rattle.text_forms.specs.Form.{words_in}
use Rattle.text_forms.proofs.Lawful.{place-first, place-next, nth-all}

-- the word at a place
module _ (words : List (Bor (List ℕ))) (n : ℕ) where
  pub nth-there : (d : Bor (List ℕ)) {word : Bor (List ℕ)} → true ≡ ltb n (length words) → word ≡ get_or words n d → word.now ≡ get_or (word_texts words) n []
  nth-there d h e = ap (λ (b : Bor (List ℕ)). b.now) e ∙ sym (get_or-mapped (λ (b : Bor (List ℕ)). b.now) words n d [] (ltb-true n (length words) (sym h)))

  pub nth-past : false ≡ ltb n (length words) → [] ≡ get_or (word_texts words) n []
  nth-past h = sym (get_or-eq_default (word_texts words) [] {n = n} (rw (length-map words (λ (b : Bor (List ℕ)). b.now)) (ltb-false n (length words) (sym h))))

-- looking for a word: none of the first k is there
abbrev pub Looked : List (Bor (List ℕ)) → List ℕ → ℕ → Type 0
Looked words s k = word_place (word_texts words) s ≡ k + word_place (word_texts (drop k words)) s

pub looked-start : (words : List (Bor (List ℕ))) (s : List ℕ) → Looked words s 0
looked-start words s = omega arith

module _ (words : List (Bor (List ℕ))) (s : List ℕ) (k : ℕ) (h : k < length words) (w : Looked words s k) (d : Bor (List ℕ)) where
  pub looked-next : starts_with (get_or words k d).now s ≡ false → Looked words s (k + 1)
  looked-next e =
      w ∙ rw (drop-cons words k d h, place-next (get_or words k d).now (word_texts (drop (suc k) words)) s e, add-one) (omega arith)

  looked-at : starts_with (get_or words k d).now s ≡ true → word_place (word_texts words) s ≡ k
  looked-at e = w ∙ rw (drop-cons words k d h, place-first (get_or words k d).now (word_texts (drop (suc k) words)) s e) (omega arith)

  pub looked-found : are_words (word_texts words) ≡ true → starts_with (get_or words k d).now s ≡ true
      → Some (record { size = length (get_or words k d).now; value = k }) ≡ numeral_of (word_spelling (word_texts words)) s
  unfolding are_words word_spelling
  looked-found a e =
      let l : length (word_texts words) ≡ length words = length-map words (λ (word : Bor (List ℕ)). word.now) in
      let few : length (word_texts words) < 256 = ltb-true (length (word_texts words)) 256 (and_l (ltb (length (word_texts words)) 256) _ a) in
      let here : get_or (word_texts words) k [] ≡ (get_or words k d).now = get_or-mapped (λ (word : Bor (List ℕ)). word.now) words k d [] h in
      let some = ltb-true 0 (length (get_or (word_texts words) k [])) (nth-all (λ word. ltb 0 (length word)) (word_texts words) k (and_r (ltb (length (word_texts words)) 256) _ a) (rw l h)) in
      let small : k ≡ saturated k = omega (arith, h, l, few) in
      rw (looked-at e, here, ne_eqb (length (get_or words k d).now) 0 (λ y. omega (arith, some, ap length here)))
      (λ i. Some (record { size = length (get_or words k d).now; value = small i }))

pub looked-none : (words : List (Bor (List ℕ))) (s : List ℕ) {k : ℕ} → length words ≤ k → Looked words s k → None ≡ numeral_of (word_spelling (word_texts words)) s
unfolding word_spelling word_place
looked-none words s {k} l w =
    let p : word_place (word_texts words) s ≡ k = w ∙ rw (drop_of_length-le words {i = k} l) (omega arith) in
    rw (p, get_or-eq_default (word_texts words) [] {n = k} (rw (length-map words (λ (word : Bor (List ℕ)). word.now)) l))

-- which words a mark has
module _ (N : Notation) (c : ℕ) where
  pub field-mark : c ≡ 37 → N.fields ≡ words_in N c
  unfolding words_in
  field-mark e = rw e

  pub rule-mark : c ≡ 33 → rule_words ≡ words_in N c
  unfolding words_in
  rule-mark e = rw e

  pub answer-mark : c ≢ 37 → c ≢ 33 → answer_words ≡ words_in N c
  unfolding words_in
  answer-mark e f = rw (ne_eqb c 37 e, ne_eqb c 33 f)

-- what is asked of the words to look for
pub fine-as : {words others : List (List ℕ)} → words ≡ others → are_words words ≡ true → are_words others ≡ true
fine-as e h = rw (← e) h

pub rules-fine : are_words rule_words ≡ true
unfolding are_words rule_words bytes all
rules-fine = refl

pub answers-fine : are_words answer_words ≡ true
unfolding are_words answer_words bytes all
answers-fine = refl

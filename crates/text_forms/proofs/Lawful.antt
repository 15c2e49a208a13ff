-- What every spelling of numbers has: it is read back, what is read was written so, and its first byte tells it. Assumes nothing.
use Prim.Native.Nat.{ℕ, zero, suc, ◌≤◌, ◌<◌, ◌^◌}
use mathlib.Core.Path.{◌≡◌, refl, ap, sym, ◌∙◌}
use mathlib.Core.Bool.{Bool, true, false, cond, not, ◌&&◌, ◌||◌}
use mathlib.Core.Logic.{◌≢◌}
use mathlib.Core.List.{List, [], ◌∷◌, ◌++◌}
use native.Mathlib.Omega.{arith}
use borrow.Author.Tests.{eqb-true, eqb-false, eq-eqb, ltb-true, lt-ltb, le-ltb, leb-true, not-true}
use lib.Dec.{eqb, leb, ltb}
use lib.ListN.{length, get_or, drop, get_or-eq_default}
use Rattle.lists.specs.Lists.{mem, any, all}
use Rattle.lists.proofs.Lists.{by, clash, le-by, and_l, and_r, or_l, or_r}
use Rattle.text_forms.specs.decimal.Decimal.{is_digit, digit_run}
use Rattle.text_forms.proofs.decimal.Laws.{number_short, decimal-ten, decimal-twenty}
use Rattle.text_forms.proofs.decimal.RoundTrip.{decimal-head, run-stops, size-written, value_written, written_read, size-nothing, size-other, decimal-no-end}
use Rattle.text_forms.specs.Spelling.{bytes, Spelling, number_spelling, starts_with, word_place, word_spelling, answer_words, rule_words, field_words, Notation, decimal_notation}
use Rattle.text_forms.specs.Form.{words_in, spelling_in}

-- what follows cannot go on with the spelling
abbrev pub stopped : Spelling → List ℕ → Bool
stopped S [] = true
stopped S (d ∷ rest) = S.stops d

pub record Begun (S : Spelling) (text : List ℕ) : Type 0 where
  pub first : ℕ
  pub rest : List ℕ
  pub is : text ≡ first ∷ rest
  pub begins : S.begins first ≡ true

pub record Lawful (S : Spelling) (most : ℕ) : Type 0 where
  pub begun : (n : ℕ) → S.spells n ≡ true → Begun S (S.write n)
  pub size_back : (n : ℕ) (rest : List ℕ) → stopped S rest ≡ true → S.spells n ≡ true → S.size (S.write n ++ rest) ≡ length (S.write n)
  pub value-back : (n : ℕ) (rest : List ℕ) → stopped S rest ≡ true → S.spells n ≡ true → S.value (S.write n ++ rest) ≡ n
  pub written : (s : List ℕ) → S.size s ≢ 0 → S.spells (S.value s) ≡ true → s ≡ S.write (S.value s) ++ drop (S.size s) s
  -- what is read and fits 32 bits has a spelling of its own
  pub own : (s : List ℕ) → S.size s ≢ 0 → S.value s < 4294967296 → S.spells (S.value s) ≡ true
  pub nothing : S.size [] ≡ 0
  pub other : (d : ℕ) (s : List ℕ) → S.begins d ≡ false → S.size (d ∷ s) ≡ 0
  pub short : (s : List ℕ) → S.size s ≤ length s
  -- within 32 bits so many bytes are enough, within 64 twenty
  pub narrow : (n : ℕ) → n < 4294967296 → length (S.write n) ≤ most
  pub wide : (n : ℕ) → n < 2 ^ 64 → length (S.write n) ≤ 20
  -- no line ends inside
  pub no_end : (n : ℕ) → mem 10 (S.write n) ≡ false

-- numbers in decimal
digit-test : (d : ℕ) → 48 ≤ d → d < 58 → is_digit d ≡ true
digit-test d l h = rw (le-ltb d 48 l, lt-ltb d 58 h)

stopped-run : (rest : List ℕ) → stopped number_spelling rest ≡ true → digit_run rest ≡ []
unfolding number_spelling digit_run
stopped-run [] h = refl
stopped-run (d ∷ rest) h = run-stops d rest (not-true (is_digit d) h)

numbers-lawful : Lawful number_spelling 10
unfolding number_spelling
numbers-lawful = record {
  begun = λ n k. decimal-head n (λ d ds e l h. record { first = d; rest = ds; is = e; begins = digit-test d l h });
  size_back = λ n rest h k. size-written n rest (stopped-run rest h);
  value-back = λ n rest h k. value_written n rest (stopped-run rest h);
  written = λ s h k. written_read s h;
  own = λ s h l. refl;
  nothing = size-nothing;
  other = size-other;
  short = number_short;
  narrow = decimal-ten;
  wide = decimal-twenty;
  no_end = decimal-no-end;
}

-- words
word-there : (word s : List ℕ) → starts_with word s ≡ true → s ≡ word ++ drop (length word) s
unfolding starts_with
word-there [] s h = refl
word-there (c ∷ word) [] h = clash h refl
word-there (c ∷ word) (x ∷ s) h =
    rw (eqb-true c x (and_l (eqb c x) (starts_with word s) h)) (ap (λ (l : List ℕ). x ∷ l) (word-there word s (and_r (eqb c x) (starts_with word s) h)))

word-short : (word s : List ℕ) → starts_with word s ≡ true → length word ≤ length s
unfolding starts_with
word-short [] s h = omega arith
word-short (c ∷ word) [] h = clash h refl
word-short (c ∷ word) (x ∷ s) h = omega (arith, word-short word s (and_r (eqb c x) (starts_with word s) h))

word-again : (word rest : List ℕ) → starts_with word (word ++ rest) ≡ true
unfolding starts_with
word-again [] rest = refl
word-again (c ∷ word) rest = rw (eq-eqb c c refl) (word-again word rest)

-- neither of two words begins the other
abbrev apart_words : List ℕ → List ℕ → Bool
apart_words word other = not (starts_with word other || starts_with other word)

word-other : (word other rest : List ℕ) → apart_words word other ≡ true → starts_with word (other ++ rest) ≡ false
unfolding starts_with
word-other [] other rest h = clash h refl
word-other (c ∷ word) [] rest h = clash h refl
word-other (c ∷ word) (d ∷ other) rest h =
    by (eqb c d)
    (λ (e : eqb c d ≡ true). rw e (word-other word other rest (rw (e, eq-eqb d c (sym (eqb-true c d e))) at h)))
    (λ (e : eqb c d ≡ false). rw e)

-- what a line may hold: some bytes, at most so many, and none of them its end
abbrev is_word : ℕ → List ℕ → Bool
is_word most word = ltb 0 (length word) && (leb (length word) most && not (mem 10 word))

unfoldable prefix_free : List (List ℕ) → Bool
prefix_free [] = true
prefix_free (word ∷ words) = all (apart_words word) words && prefix_free words

-- what holds of each word holds of that at a place
module _ (test : List ℕ → Bool) where
  pub nth-all : (words : List (List ℕ)) (n : ℕ) → all test words ≡ true → n < length words → test (get_or words n []) ≡ true
  unfolding all
  nth-all [] n h l = absurd (omega arith)
  nth-all (word ∷ words) zero h l = and_l (test word) (all test words) h
  nth-all (word ∷ words) (suc n) h l = nth-all words n (and_r (test word) (all test words) h) (omega arith)

  nth-any : (words : List (List ℕ)) (n : ℕ) → n < length words → test (get_or words n []) ≡ true → any test words ≡ true
  unfolding any
  nth-any [] n l h = absurd (omega arith)
  nth-any (word ∷ words) zero l h = or_l (test word) (any test words) h
  nth-any (word ∷ words) (suc n) l h = or_r (test word) (any test words) (nth-any words n (omega arith) h)

module _ (word : List ℕ) (words : List (List ℕ)) (s : List ℕ) where
  pub place-first : starts_with word s ≡ true → word_place (word ∷ words) s ≡ 0
  unfolding word_place
  place-first e = rw e

  pub place-next : starts_with word s ≡ false → word_place (word ∷ words) s ≡ suc (word_place words s)
  unfolding word_place
  place-next e = rw e (omega arith)

place-there : (words : List (List ℕ)) (s : List ℕ) → word_place words s < length words → starts_with (get_or words (word_place words s) []) s ≡ true
place-there [] s h = absurd (omega arith)
place-there (word ∷ words) s h =
    by (starts_with word s)
    (λ (e : starts_with word s ≡ true). rw (place-first word words s e) e)
    (λ (e : starts_with word s ≡ false). rw (place-next word words s e) (place-there words s (let l = rw (place-next word words s e) at h in omega arith)))

place-back : (words : List (List ℕ)) (n : ℕ) (rest : List ℕ) → prefix_free words ≡ true → n < length words → word_place words (get_or words n [] ++ rest) ≡ n
unfolding prefix_free
place-back [] n rest h l = absurd (omega arith)
place-back (word ∷ words) zero rest h l = place-first word words (word ++ rest) (word-again word rest)
place-back (word ∷ words) (suc n) rest h l =
    let d = nth-all (apart_words word) words n (and_l (all (apart_words word) words) (prefix_free words) h) (omega arith) in
    place-next word words (get_or words n [] ++ rest) (word-other word (get_or words n []) rest d)
    ∙ ap suc (place-back words n rest (and_r (all (apart_words word) words) (prefix_free words) h) (omega arith))

module _ (words : List (List ℕ)) where
  -- a text that starts with one of the words
  known-place : (s : List ℕ) → length (get_or words (word_place words s) []) ≢ 0 → word_place words s < length words
  known-place s h =
      le-by (length words) (word_place words s)
      (λ l. absurd (h (ap length (get_or-eq_default words [] {n = word_place words s} l))))
      (λ l. l)

  pub word-size : (s : List ℕ) → length (get_or words (word_place words s) []) ≤ length s
  word-size s =
      by (eqb (length (get_or words (word_place words s) [])) 0)
      (λ e. omega (arith, eqb-true (length (get_or words (word_place words s) [])) 0 e))
      (λ e. word-short (get_or words (word_place words s) []) s (place-there words s (known-place s (eqb-false (length (get_or words (word_place words s) [])) 0 e))))

  first-of : (word : List ℕ) (d : ℕ) (s : List ℕ) → starts_with word (d ∷ s) ≡ true → starts_with (d ∷ []) word ≡ false → length word ≡ 0
  unfolding starts_with
  first-of [] d s h k = refl
  first-of (c ∷ word) d s h k = clash (rw (eq-eqb d c (sym (eqb-true c d (and_l (eqb c d) (starts_with word s) h))))) k

  word-missing : (d : ℕ) (s : List ℕ) → any (starts_with (d ∷ [])) words ≡ false → length (get_or words (word_place words (d ∷ s)) []) ≡ 0
  word-missing d s h =
      by (eqb (length (get_or words (word_place words (d ∷ s)) [])) 0)
      (λ e. eqb-true (length (get_or words (word_place words (d ∷ s)) [])) 0 e)
      (λ e. let l = known-place (d ∷ s) (eqb-false (length (get_or words (word_place words (d ∷ s)) [])) 0 e) in
      by (starts_with (d ∷ []) (get_or words (word_place words (d ∷ s)) []))
      (λ k. clash (nth-any (starts_with (d ∷ [])) words (word_place words (d ∷ s)) l k) h)
      (λ k. first-of (get_or words (word_place words (d ∷ s)) []) d s (place-there words (d ∷ s) l) k))

  module _ (most : ℕ) (fine : all (is_word most) words ≡ true) where
    fine-word : (n : ℕ) → n < length words → is_word most (get_or words n []) ≡ true
    fine-word n l = nth-all (is_word most) words n fine l

    word-most : (n : ℕ) → length (get_or words n []) ≤ most
    word-most n =
        le-by (length words) n
        (λ l. omega (arith, ap length (get_or-eq_default words [] {n = n} l)))
        (λ l. leb-true (length (get_or words n [])) most (and_l (leb (length (get_or words n [])) most) _ (and_r (ltb 0 (length (get_or words n []))) _ (fine-word n l))))

    word-no-end : (n : ℕ) → mem 10 (get_or words n []) ≡ false
    unfolding mem
    word-no-end n =
        le-by (length words) n
        (λ l. rw (get_or-eq_default words [] {n = n} l))
        (λ l. not-true (mem 10 (get_or words n [])) (and_r (leb (length (get_or words n [])) most) _ (and_r (ltb 0 (length (get_or words n []))) _ (fine-word n l))))

    word-begun : (n : ℕ) → n < length words → (word : List ℕ) → get_or words n [] ≡ word → Begun (word_spelling words) word
    unfolding word_spelling starts_with
    word-begun n l [] e = absurd (omega (arith, ltb-true 0 (length (get_or words n [])) (and_l (ltb 0 (length (get_or words n []))) _ (fine-word n l)), ap length e))
    word-begun n l (c ∷ word) e = record {
      first = c;
      rest = word;
      is = refl;
      begins = nth-any (starts_with (c ∷ [])) words n l (rw (e, eq-eqb c c refl));
    }

    words-lawful : prefix_free words ≡ true → ltb most 21 ≡ true → Lawful (word_spelling words) most
    unfolding word_spelling
    words-lawful free small = record {
      begun = λ n k. word-begun n (ltb-true n (length words) k) (get_or words n []) refl;
      size_back = λ n rest h k. ap (λ (m : ℕ). length (get_or words m [])) (place-back words n rest free (ltb-true n (length words) k));
      value-back = λ n rest h k. place-back words n rest free (ltb-true n (length words) k);
      written = λ s h k. word-there (get_or words (word_place words s) []) s (place-there words s (ltb-true (word_place words s) (length words) k));
      own = λ s h l. lt-ltb (word_place words s) (length words) (known-place s h);
      nothing = omega (arith, word-size []);
      other = word-missing;
      short = word-size;
      narrow = λ n h. word-most n;
      wide = λ n h. omega (arith, word-most n, ltb-true most 21 small);
      no_end = word-no-end;
    }

answers-lawful : Lawful (word_spelling answer_words) 10
unfolding answer_words bytes all mem prefix_free starts_with
answers-lawful = words-lawful answer_words 10 refl refl refl

rules-lawful : Lawful (word_spelling rule_words) 12
unfolding rule_words bytes all mem prefix_free starts_with
rules-lawful = words-lawful rule_words 12 refl refl refl

fields-lawful : Lawful (word_spelling field_words) 5
unfolding field_words bytes all mem prefix_free starts_with
fields-lawful = words-lawful field_words 5 refl refl refl

-- What every notation has: its names and fields are lawful, and a name stops at a space and at the line's end.
pub record LawfulNotation (N : Notation) : Type 0 where
  pub names : Lawful N.names 10
  pub fields : Lawful (word_spelling N.fields) 5
  pub space : N.names.stops 32 ≡ true
  pub line_end : N.names.stops 10 ≡ true

pub decimal-lawful : LawfulNotation decimal_notation
unfolding decimal_notation number_spelling
decimal-lawful = record { names = numbers-lawful; fields = fields-lawful; space = refl; line_end = refl }

-- the most bytes that a mark's number of 32 bits takes
abbrev pub most_bytes : ℕ → ℕ
most_bytes mark = cond (eqb mark 37) 5 (cond (eqb mark 33) 12 10)

pub lawful : {N : Notation} → LawfulNotation N → (mark : ℕ) → Lawful (spelling_in N mark) (most_bytes mark)
unfolding spelling_in words_in
lawful {N} w mark =
    by (eqb mark 35)
    (λ (e : eqb mark 35 ≡ true). rw (eqb-true mark 35 e) numbers-lawful)
    (λ (e : eqb mark 35 ≡ false).
    by (eqb mark 64)
    (λ (g : eqb mark 64 ≡ true). rw (eqb-true mark 64 g) w.names)
    (λ (g : eqb mark 64 ≡ false).
    by (eqb mark 37)
    (λ (h : eqb mark 37 ≡ true). rw (eqb-true mark 37 h) w.fields)
    (λ (h : eqb mark 37 ≡ false).
    by (eqb mark 33)
    (λ (k : eqb mark 33 ≡ true). rw (eqb-true mark 33 k) rules-lawful)
    (λ (k : eqb mark 33 ≡ false). rw (e, g, h, k) answers-lawful))))

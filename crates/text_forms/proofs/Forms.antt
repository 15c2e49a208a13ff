-- The three laws of forms: what a form gives is read back; what is read was given so; another form does not fit. Their conditions are computed
-- tests of the form. Beside them: how many bytes a form takes, and that it gives one line. Assumes nothing.
use Prim.Native.Nat.{ℕ, suc, ◌+◌, ◌*◌, ◌≤◌, ◌<◌, ◌^◌}
use mathlib.Core.Path.{◌≡◌, refl, ap, sym, ◌∙◌}
use mathlib.Core.Bool.{Bool, true, false, cond, not, ◌&&◌, ◌||◌}
use mathlib.Core.Logic.{◌≢◌}
use mathlib.Core.List.{List, [], ◌∷◌, ◌++◌, append_assoc}
use mathlib.Core.Option.{Option, none, some}
use native.Mathlib.Omega.{arith}
use borrow.Author.Tests.{eqb-true, eqb-false, eq-eqb, ne_eqb, not-true}
use lib.Dec.{eqb}
use lib.ListN.{length, get_or, drop, length-append}
use lib.Seq.{drop-append_seam, get_or-drop}
use Rattle.lists.specs.Lists.{mem, any, all}
use Rattle.lists.proofs.Lists.{by, clash, and_l, and_r, and_i, or-by, or-no-l, or-no-r, mem-append, none-some}
use Rattle.text_forms.specs.Spelling.{number_spelling, starts_with, word_spelling, Notation, decimal_notation}
use Rattle.text_forms.specs.Form.{is_mark, words_in, spelling_in, fill_in, number_before, begins_with, taken_in}
use Rattle.text_forms.proofs.Lawful.{stopped, LawfulNotation, most_bytes, lawful}

-- how many numbers a form takes
unfoldable pub slots : List ℕ → ℕ
slots [] = 0
slots (c ∷ form) = cond (is_mark c) (suc (slots form)) (slots form)

-- how the form's marks stand in a notation
module _ (N : Notation) where
  -- each of the form's numbers has a spelling of its own
  unfoldable pub spelled : List ℕ → List ℕ → Bool
  spelled [] ns = true
  spelled (c ∷ form) ns = cond (is_mark c) ((spelling_in N c).spells (get_or ns 0 0) && spelled form (drop 1 ns)) (spelled form ns)

  -- no spelling of the mark c goes on into what the form gives
  abbrev pub spelled_apart : ℕ → List ℕ → Bool
  spelled_apart c [] = true
  spelled_apart c (d ∷ form) = not (is_mark d) && (spelling_in N c).stops d

  unfoldable pub separate : List ℕ → Bool
  separate [] = true
  separate (c ∷ form) = cond (is_mark c) (spelled_apart c form && separate form) (separate form)

  -- no word of the mark c begins as the mark d may
  abbrev pub words_apart : ℕ → ℕ → Bool
  words_apart c d = not (eqb c 35 || eqb c 64) && all (λ word. not ((spelling_in N d).begins (get_or word 0 0))) (words_in N c)

  -- two different bytes of two forms give texts that begin differently
  abbrev pub unlike : ℕ → ℕ → Bool
  unlike c d =
      cond (is_mark c)
      (cond (is_mark d) (words_apart c d || words_apart d c) (not ((spelling_in N c).begins d)))
      (not (is_mark d) || not ((spelling_in N d).begins c))

  -- two forms that give no text in common
  unfoldable pub differ : List ℕ → List ℕ → Bool
  differ [] [] = false
  differ [] (d ∷ g) = true
  differ (c ∷ f) [] = true
  differ (c ∷ f) (d ∷ g) = cond (eqb c d) (differ f g) (unlike c d)

-- a byte that one of some words begins with passes what they all pass
head-passes : (test : ℕ → Bool) (b : ℕ) (words : List (List ℕ)) → any (starts_with (b ∷ [])) words ≡ true → all (λ word. not (test (get_or word 0 0))) words ≡ true → test b ≡ false
unfolding any all starts_with
head-passes test b [] h k = clash h refl
head-passes test b ([] ∷ words) h k = head-passes test b words h (and_r (not (test 0)) _ k)
head-passes test b ((c ∷ word) ∷ words) h k =
    or-by (eqb b c && true) (any (starts_with (b ∷ [])) words) h
    (λ e. rw (eqb-true b c (and_l (eqb b c) true e)) (not-true (test c) (and_l (not (test c)) _ k)))
    (λ e. head-passes test b words e (and_r (not (test c)) _ k))

word-begins : (N : Notation) (c b : ℕ) → eqb c 35 ≡ false → eqb c 64 ≡ false → (spelling_in N c).begins b ≡ true → any (starts_with (b ∷ [])) (words_in N c) ≡ true
unfolding spelling_in word_spelling
word-begins N c b x y k = rw (x, y) at k

words-begin : (N : Notation) (c d b : ℕ) → words_apart N c d ≡ true → (spelling_in N c).begins b ≡ true → (spelling_in N d).begins b ≡ false
words-begin N c d b h k =
    let o : (eqb c 35 || eqb c 64) ≡ false = not-true (eqb c 35 || eqb c 64) (and_l (not (eqb c 35 || eqb c 64)) _ h) in
    head-passes (λ e. (spelling_in N d).begins e) b (words_in N c) (word-begins N c b (or-no-l (eqb c 35) (eqb c 64) o) (or-no-r (eqb c 35) (eqb c 64) o) k)
    (and_r (not (eqb c 35 || eqb c 64)) _ h)

pub marks-apart : (N : Notation) (c d b : ℕ) → (words_apart N c d || words_apart N d c) ≡ true → (spelling_in N d).begins b ≡ true → (spelling_in N c).begins b ≡ false
marks-apart N c d b h k =
    or-by (words_apart N c d) (words_apart N d c) h
    (λ e. by ((spelling_in N c).begins b) (λ q. clash k (words-begin N c d b e q)) (λ q. q))
    (λ e. words-begin N d c b e k)

-- one step of the writer and of the reader
module _ (N : Notation) (c : ℕ) (f : List ℕ) where
  module _ (m : is_mark c ≡ true) where
    pub fill-mark : (ns : List ℕ) → fill_in N (c ∷ f) ns ≡ (spelling_in N c).write (get_or ns 0 0) ++ fill_in N f (drop 1 ns)
    unfolding fill_in
    fill-mark ns = rw m

    pub mark-taken : (s : List ℕ) → (spelling_in N c).size s ≢ 0 → taken_in N (c ∷ f) s ≡ number_before ((spelling_in N c).value s) (taken_in N f (drop ((spelling_in N c).size s) s))
    unfolding taken_in
    mark-taken s h = rw (m, ne_eqb ((spelling_in N c).size s) 0 h)

    pub mark-missing : (s : List ℕ) → (spelling_in N c).size s ≡ 0 → taken_in N (c ∷ f) s ≡ none
    unfolding taken_in
    mark-missing s h = rw (m, eq-eqb ((spelling_in N c).size s) 0 h)

  module _ (m : is_mark c ≡ false) where
    pub fill-byte : (ns : List ℕ) → fill_in N (c ∷ f) ns ≡ c ∷ fill_in N f ns
    unfolding fill_in
    fill-byte ns = rw m

    pub byte-taken : (s : List ℕ) → begins_with c s ≡ true → taken_in N (c ∷ f) s ≡ taken_in N f (drop 1 s)
    unfolding taken_in
    byte-taken s h = rw (m, h)

    pub byte-missing : (s : List ℕ) → begins_with c s ≡ false → taken_in N (c ∷ f) s ≡ none
    unfolding taken_in
    byte-missing s h = rw (m, h)

-- a word without marks stands as it is
abbrev pub plain : List ℕ → Bool
plain word = all (λ c. not (is_mark c)) word

module _ (N : Notation) where
  fill-nothing : (ns : List ℕ) → fill_in N [] ns ≡ []
  unfolding fill_in
  fill-nothing ns = refl

  taken-nothing : taken_in N [] (fill_in N [] []) ≡ some []
  unfolding fill_in taken_in
  taken-nothing = refl

  fill_end : (ns : List ℕ) → fill_in N (10 ∷ []) ns ≡ 10 ∷ []
  unfolding fill_in is_mark
  fill_end ns = refl

-- The most bytes that a form takes with numbers of 32 bits.
unfoldable pub room : List ℕ → ℕ
room [] = 0
room (c ∷ form) = cond (is_mark c) (most_bytes c + room form) (1 + room form)

abbrev pub AllSmall : List ℕ → Type 0
AllSmall [] = Unit
AllSmall (n ∷ ns) = (n < 4294967296) × AllSmall ns

small-first : (ns : List ℕ) → AllSmall ns → get_or ns 0 0 < 4294967296
small-first [] h = omega arith
small-first (n ∷ ns) h = h.0

small-rest : (ns : List ℕ) → AllSmall ns → AllSmall (drop 1 ns)
small-rest [] h = tt
small-rest (n ∷ ns) h = h.1

more-some : {P : Type 0} (n : ℕ) (o : Option (List ℕ)) (ns : List ℕ) → number_before n o ≡ some ns → ((ms : List ℕ) → o ≡ some ms → ns ≡ n ∷ ms → P) → P
more-some n none ns e k = let z : ◌≡◌ {A = ℕ} 0 1 = cc in absurd (omega arith)
more-some n (some ms) ns e k = k ms refl (cc)

first_byte : (c : ℕ) (s : List ℕ) → begins_with c s ≡ true → s ≡ c ∷ drop 1 s
first_byte c [] h = clash h refl
first_byte c (x ∷ s) h = ap (λ (y : ℕ). y ∷ s) (sym (eqb-true c x h))

more-none : (n : ℕ) {o : Option (List ℕ)} → o ≡ none → number_before n o ≡ none
more-none n e = rw e

-- A form whose only byte 10 is its last gives such a text.
unfoldable pub one_line : List ℕ → Bool
one_line [] = false
one_line (c ∷ []) = eqb c 10
one_line (c ∷ d ∷ form) = not (eqb c 10) && one_line (d ∷ form)

pub record Ended (text : List ℕ) : Type 0 where
  pub inner : List ℕ
  pub is : text ≡ inner ++ (10 ∷ [])
  pub plain : mem 10 inner ≡ false

ended-behind : (w : List ℕ) {s : List ℕ} → mem 10 w ≡ false → Ended s → Ended (w ++ s)
ended-behind w p e = record {
  inner = w ++ e.inner;
  is = ap (λ (l : List ℕ). w ++ l) e.is ∙ sym (append_assoc w e.inner (10 ∷ []));
  plain = rw (mem-append, p, e.plain);
}

none-there : mem 10 [] ≡ false
unfolding mem
none-there = refl

byte-plain : (c : ℕ) → eqb c 10 ≡ false → mem 10 (c ∷ []) ≡ false
unfolding mem
byte-plain c h = rw (ne_eqb 10 c (λ e. eqb-false c 10 h (sym e)))

module _ {N : Notation} (w : LawfulNotation N) where
  apart-fill : (c : ℕ) (f ns : List ℕ) → spelled_apart N c f ≡ true → stopped (spelling_in N c) (fill_in N f ns) ≡ true
  apart-fill c [] ns h = rw (fill-nothing N ns)
  apart-fill c (d ∷ f) ns h =
      rw (fill-byte N d f (not-true (is_mark d) (and_l (not (is_mark d)) _ h)) ns) (and_r (not (is_mark d)) ((spelling_in N c).stops d) h)

  write-some : (c n : ℕ) → (spelling_in N c).spells n ≡ true → length ((spelling_in N c).write n) ≢ 0
  write-some c n k e = let b = (lawful w c).begun n k in let l : length ((spelling_in N c).write n) ≡ suc (length b.rest) = ap length b.is in omega arith

  -- a spelling in front is passed
  written-taken : (c : ℕ) (f : List ℕ) (n : ℕ) (s : List ℕ) → is_mark c ≡ true → stopped (spelling_in N c) s ≡ true → (spelling_in N c).spells n ≡ true
      → taken_in N (c ∷ f) ((spelling_in N c).write n ++ s) ≡ number_before ((spelling_in N c).value ((spelling_in N c).write n ++ s)) (taken_in N f s)
  written-taken c f n s m h k =
      let z : (spelling_in N c).size ((spelling_in N c).write n ++ s) ≡ length ((spelling_in N c).write n) = (lawful w c).size_back n s h k in
      mark-taken N c f m ((spelling_in N c).write n ++ s) (λ e. write-some c n k (sym z ∙ e))
      ∙ rw (z, drop-append_seam ((spelling_in N c).write n) s)

  filled-mark : (c : ℕ) (f ns : List ℕ) → is_mark c ≡ true → spelled_apart N c f ≡ true → (spelling_in N c).spells (get_or ns 0 0) ≡ true → length ns ≡ suc (slots f)
      → ((ms : List ℕ) → ms ≡ drop 1 ns → length ms ≡ slots f → taken_in N f (fill_in N f ms) ≡ some ms) → taken_in N (c ∷ f) (fill_in N (c ∷ f) ns) ≡ some ns
  filled-mark c f [] m p k l h = absurd (omega arith)
  filled-mark c f (n ∷ ns) m p k l h =
      let q : length ns ≡ slots f = omega arith in
      let t : stopped (spelling_in N c) (fill_in N f ns) ≡ true = apart-fill c f ns p in
      rw (fill-mark N c f m (n ∷ ns)) (written-taken c f n (fill_in N f ns) m t k ∙ rw ((lawful w c).value-back n (fill_in N f ns) t k, h ns refl q))

  -- What a form gives is read back.
  pub taken-fill : (f ns : List ℕ) → separate N f ≡ true → spelled N f ns ≡ true → length ns ≡ slots f → taken_in N f (fill_in N f ns) ≡ some ns
  unfolding separate spelled slots
  taken-fill [] [] p k l = taken-nothing N
  taken-fill [] (n ∷ ns) p k l = absurd (omega arith)
  taken-fill (c ∷ f) ns p k l =
      by (is_mark c)
      (λ (m : is_mark c ≡ true).
      let q : (spelled_apart N c f && separate N f) ≡ true = rw m at p in
      let r : ((spelling_in N c).spells (get_or ns 0 0) && spelled N f (drop 1 ns)) ≡ true = rw m at k in
      filled-mark c f ns m (and_l (spelled_apart N c f) (separate N f) q) (and_l ((spelling_in N c).spells (get_or ns 0 0)) _ r) (rw m at l)
      (λ ms e z. taken-fill f ms (and_r (spelled_apart N c f) (separate N f) q) (rw e (and_r ((spelling_in N c).spells (get_or ns 0 0)) (spelled N f (drop 1 ns)) r)) z))
      (λ (m : is_mark c ≡ false).
      rw (fill-byte N c f m ns) (byte-taken N c f m (c ∷ fill_in N f ns) (eq-eqb c c refl) ∙ taken-fill f ns (rw m at p) (rw m at k) (rw m at l)))

  -- What is read of a text gives that text.
  -- The numbers are as many as the form takes; where each has a spelling of its own, the text is the form's; and all that fit 32 bits have one.
  abbrev pub GivenBy : List ℕ → List ℕ → List ℕ → Type 0
  GivenBy f s ns = (length ns ≡ slots f) × (spelled N f ns ≡ true → s ≡ fill_in N f ns) × (AllSmall ns → spelled N f ns ≡ true)

  given-mark : (c : ℕ) (f s ns : List ℕ) → is_mark c ≡ true → (spelling_in N c).size s ≢ 0 → GivenBy f (drop ((spelling_in N c).size s) s) ns → GivenBy (c ∷ f) s ((spelling_in N c).value s ∷ ns)
  unfolding slots spelled
  given-mark c f s ns m h g =
      rw m (
        ap suc g.0,
        λ k. rw (fill-mark N c f m ((spelling_in N c).value s ∷ ns))
            ((lawful w c).written s h (and_l ((spelling_in N c).spells ((spelling_in N c).value s)) _ k)
            ∙ ap (λ (l : List ℕ). (spelling_in N c).write ((spelling_in N c).value s) ++ l) (g.1 (and_r ((spelling_in N c).spells ((spelling_in N c).value s)) (spelled N f ns) k))),
        λ a. and_i ((spelling_in N c).spells ((spelling_in N c).value s)) (spelled N f ns) ((lawful w c).own s h a.0) (g.2 a.1),
      )

  given-byte : (c : ℕ) (f s ns : List ℕ) → is_mark c ≡ false → begins_with c s ≡ true → GivenBy f (drop 1 s) ns → GivenBy (c ∷ f) s ns
  unfolding slots spelled
  given-byte c f s ns m h g =
      rw m (g.0, λ k. rw (fill-byte N c f m ns) (first_byte c s h ∙ ap (λ (l : List ℕ). c ∷ l) (g.1 k)), g.2)

  given_nothing : (s ns : List ℕ) → taken_in N [] s ≡ some ns → GivenBy [] s ns
  unfolding taken_in slots spelled fill_in
  given_nothing [] ns h = let e : ns ≡ [] = cc in (ap length e, λ k. refl, λ a. refl)
  given_nothing (x ∷ s) ns h = none-some refl h

  pub fill-taken : (f s ns : List ℕ) → taken_in N f s ≡ some ns → GivenBy f s ns
  fill-taken [] s ns h = given_nothing s ns h
  fill-taken (c ∷ f) s ns h =
      by (is_mark c)
      (λ (m : is_mark c ≡ true).
      by (eqb ((spelling_in N c).size s) 0)
      (λ e. none-some (mark-missing N c f m s (eqb-true ((spelling_in N c).size s) 0 e)) h)
      (λ e. let z : (spelling_in N c).size s ≢ 0 = eqb-false ((spelling_in N c).size s) 0 e in
      more-some ((spelling_in N c).value s) (taken_in N f (drop ((spelling_in N c).size s) s)) ns (sym (mark-taken N c f m s z) ∙ h)
      (λ ms q r. rw r (given-mark c f s ms m z (fill-taken f (drop ((spelling_in N c).size s) s) ms q)))))
      (λ (m : is_mark c ≡ false).
      by (begins_with c s)
      (λ e. given-byte c f s ns m e (fill-taken f (drop 1 s) ns (sym (byte-taken N c f m s e) ∙ h)))
      (λ e. none-some (byte-missing N c f m s e) h))

  -- Another form does not fit.
  nothing-more : (d : ℕ) (g ns : List ℕ) → spelled N (d ∷ g) ns ≡ true → taken_in N [] (fill_in N (d ∷ g) ns) ≡ none
  unfolding taken_in spelled
  nothing-more d g ns k =
      by (is_mark d)
      (λ (m : is_mark d ≡ true). let b = (lawful w d).begun (get_or ns 0 0) (and_l ((spelling_in N d).spells (get_or ns 0 0)) _ (rw m at k)) in rw (fill-mark N d g m ns, b.is))
      (λ (m : is_mark d ≡ false). rw (fill-byte N d g m ns))

  no_text : (c : ℕ) (f : List ℕ) → taken_in N (c ∷ f) [] ≡ none
  no_text c f = by (is_mark c) (λ m. mark-missing N c f m [] (lawful w c).nothing) (λ m. byte-missing N c f m [] refl)

  other_byte : (d : ℕ) (n c : ℕ) (s : List ℕ) → (spelling_in N d).spells n ≡ true → (spelling_in N d).begins c ≡ false → begins_with c ((spelling_in N d).write n ++ s) ≡ false
  other_byte d n c s k h =
      let b = (lawful w d).begun n k in
      rw b.is (ne_eqb c b.first (λ e. clash (rw (sym e) at b.begins) h))

  -- where two marks begin differently, no text begins with a spelling of both
  mark-other : (c d : ℕ) (f : List ℕ) (n : ℕ) (s : List ℕ) → is_mark c ≡ true → (words_apart N c d || words_apart N d c) ≡ true → (spelling_in N d).spells n ≡ true
      → taken_in N (c ∷ f) ((spelling_in N d).write n ++ s) ≡ none
  mark-other c d f n s m h k =
      let b = (lawful w d).begun n k in
      rw b.is (mark-missing N c f m _ ((lawful w c).other b.first (b.rest ++ s) (marks-apart N c d b.first h b.begins)))

  begin-alike : (c d : ℕ) (f g ns : List ℕ) → eqb c d ≡ false → unlike N c d ≡ true → spelled N (d ∷ g) ns ≡ true → taken_in N (c ∷ f) (fill_in N (d ∷ g) ns) ≡ none
  unfolding spelled
  begin-alike c d f g ns e h z =
      by (is_mark c)
      (λ (m : is_mark c ≡ true).
      by (is_mark d)
      (λ (p : is_mark d ≡ true).
      rw (fill-mark N d g p ns)
      (mark-other c d f (get_or ns 0 0) (fill_in N g (drop 1 ns)) m (rw (m, p) at h) (and_l ((spelling_in N d).spells (get_or ns 0 0)) _ (rw p at z))))
      (λ (p : is_mark d ≡ false).
      rw (fill-byte N d g p ns) (mark-missing N c f m (d ∷ fill_in N g ns) ((lawful w c).other d (fill_in N g ns) (not-true ((spelling_in N c).begins d) (rw (m, p) at h))))))
      (λ (m : is_mark c ≡ false).
      by (is_mark d)
      (λ (p : is_mark d ≡ true).
      let q : (spelling_in N d).begins c ≡ false = not-true ((spelling_in N d).begins c) (rw (m, p) at h) in
      rw (fill-mark N d g p ns) (byte-missing N c f m _ (other_byte d (get_or ns 0 0) c (fill_in N g (drop 1 ns)) (and_l ((spelling_in N d).spells (get_or ns 0 0)) _ (rw p at z)) q)))
      (λ (p : is_mark d ≡ false). rw (fill-byte N d g p ns) (byte-missing N c f m (d ∷ fill_in N g ns) e)))

  pub taken-other : (f g ns : List ℕ) → separate N g ≡ true → spelled N g ns ≡ true → differ N f g ≡ true → taken_in N f (fill_in N g ns) ≡ none
  unfolding separate spelled differ
  taken-other [] [] ns p z h = clash h refl
  taken-other [] (d ∷ g) ns p z h = nothing-more d g ns z
  taken-other (c ∷ f) [] ns p z h = rw (fill-nothing N ns) (no_text c f)
  taken-other (c ∷ f) (d ∷ g) ns p z h =
      by (eqb c d)
      (λ (e : eqb c d ≡ true).
      by (is_mark d)
      (λ (m : is_mark d ≡ true).
      let q : (spelled_apart N d g && separate N g) ≡ true = rw m at p in
      let k : ((spelling_in N d).spells (get_or ns 0 0) && spelled N g (drop 1 ns)) ≡ true = rw m at z in
      rw (eqb-true c d e, fill-mark N d g m ns)
      (written-taken d f (get_or ns 0 0) (fill_in N g (drop 1 ns)) m (apart-fill d g (drop 1 ns) (and_l (spelled_apart N d g) (separate N g) q)) (and_l ((spelling_in N d).spells (get_or ns 0 0)) _ k)
      ∙ more-none _ (taken-other f g (drop 1 ns) (and_r (spelled_apart N d g) (separate N g) q) (and_r ((spelling_in N d).spells (get_or ns 0 0)) _ k) (rw e at h))))
      (λ (m : is_mark d ≡ false).
      rw (eqb-true c d e, fill-byte N d g m ns) (byte-taken N d f m (d ∷ fill_in N g ns) (eq-eqb d d refl) ∙ taken-other f g ns (rw m at p) (rw m at z) (rw e at h))))
      (λ (e : eqb c d ≡ false). begin-alike c d f g ns e (rw e at h) z)

  pub fill-room : (f ns : List ℕ) → AllSmall ns → length (fill_in N f ns) ≤ room f
  unfolding room
  fill-room [] ns h = rw (fill-nothing N ns) (omega arith)
  fill-room (c ∷ f) ns h =
      by (is_mark c)
      (λ (m : is_mark c ≡ true).
      rw (m, fill-mark N c f m ns, length-append)
      (omega (arith, (lawful w c).narrow (get_or ns 0 0) (small-first ns h), fill-room f (drop 1 ns) (small-rest ns h))))
      (λ (m : is_mark c ≡ false). rw (m, fill-byte N c f m ns) (omega (arith, fill-room f ns h)))

  -- With numbers of 64 bits a byte of the form gives at most twenty.
  pub fill-wide : (f ns : List ℕ) → ((k : ℕ) → get_or ns k 0 < 2 ^ 64) → length (fill_in N f ns) ≤ 20 * length f
  fill-wide [] ns h = rw (fill-nothing N ns) (omega arith)
  fill-wide (c ∷ f) ns h =
      by (is_mark c)
      (λ (m : is_mark c ≡ true).
      rw (fill-mark N c f m ns, length-append)
      (omega (arith, (lawful w c).wide (get_or ns 0 0) (h 0), fill-wide f (drop 1 ns) (λ k. rw get_or-drop (h (1 + k))))))
      (λ (m : is_mark c ≡ false). rw (fill-byte N c f m ns) (omega (arith, fill-wide f ns h)))

  pub fill-ended : (f ns : List ℕ) → one_line f ≡ true → Ended (fill_in N f ns)
  unfolding one_line
  fill-ended [] ns h = clash h refl
  fill-ended (c ∷ []) ns h = rw (eqb-true c 10 h) (record { inner = []; is = fill_end N ns; plain = none-there })
  fill-ended (c ∷ d ∷ f) ns h =
      let n : eqb c 10 ≡ false = not-true (eqb c 10) (and_l (not (eqb c 10)) _ h) in
      let k : one_line (d ∷ f) ≡ true = and_r (not (eqb c 10)) (one_line (d ∷ f)) h in
      by (is_mark c)
      (λ (m : is_mark c ≡ true). rw (fill-mark N c (d ∷ f) m ns) (ended-behind _ ((lawful w c).no_end (get_or ns 0 0)) (fill-ended (d ∷ f) (drop 1 ns) k)))
      (λ (m : is_mark c ≡ false). rw (fill-byte N c (d ∷ f) m ns) (ended-behind (c ∷ []) (byte-plain c n) (fill-ended (d ∷ f) ns k)))

-- In decimal # and @ spell every number.
abbrev pub wordless : List ℕ → Bool
wordless f = all (λ c. not (is_mark c) || (eqb c 35 || eqb c 64)) f

spells-all : (c n : ℕ) → (eqb c 35 || eqb c 64) ≡ true → (spelling_in decimal_notation c).spells n ≡ true
unfolding spelling_in decimal_notation number_spelling
spells-all c n h =
    or-by (eqb c 35) (eqb c 64) h
    (λ e. rw (eqb-true c 35 e))
    (λ e. rw (eqb-true c 64 e))

pub spelled-all : (f ns : List ℕ) → wordless f ≡ true → spelled decimal_notation f ns ≡ true
unfolding spelled all
spelled-all [] ns h = refl
spelled-all (c ∷ f) ns h =
    let r : wordless f ≡ true = and_r (not (is_mark c) || (eqb c 35 || eqb c 64)) (wordless f) h in
    by (is_mark c)
    (λ (m : is_mark c ≡ true). rw (m, spells-all c (get_or ns 0 0) (rw m at (and_l (not (is_mark c) || (eqb c 35 || eqb c 64)) (wordless f) h))) (spelled-all f (drop 1 ns) r))
    (λ (m : is_mark c ≡ false). rw m (spelled-all f ns r))

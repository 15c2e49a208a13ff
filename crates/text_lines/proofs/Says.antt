-- The laws that the readers of lines cite. Assumes nothing.
use Prim.Native.String.{String}
use Prim.Native.Nat.{ℕ, zero, suc, ◌+◌, ◌≤◌, ◌<◌}
use mathlib.Core.Path.{◌≡◌, refl, ap, sym, ◌∙◌}
use mathlib.Core.Bool.{Bool, true, false, not}
use mathlib.Core.Logic.{◌≢◌}
use mathlib.Core.List.{List, [], ◌∷◌, ◌++◌, map}
use mathlib.Core.Option.{Option, none, some}
use native.Mathlib.Omega.{arith}
use borrow.Author.Tests.{lt-ltb, le-ltb, ltb-true, ltb-false}
use lib.ListN.{length, get_or, take, drop, replicate}
use Rattle.lists.specs.Lists.{all, mem, filter}
use Rattle.lists.proofs.Lists.{by, is-by, le-by, none-some, clash, and_l, and_r}
use Rattle.text_forms.specs.decimal.Decimal.{saturated}
use Rattle.text_forms.proofs.decimal.RoundTrip.{saturated-same}
use Rattle.text_forms.specs.Spelling.{bytes, rule_words, Notation}
use Rattle.text_forms.specs.Form.{is_mark, spelling_in, number_before, begins_with, taken_in, number_places, filled_of}
use Rattle.text_forms.proofs.Forms.{slots, mark-taken, mark-missing, byte-taken, byte-missing}
use Rattle.std.specs.Prelude.{Option as Answer, Some, None, Result, Ok, Err}
use Rattle.std.specs.Option.{ok_or}
use Rattle.std.proofs.lemmas.List.{get_or_past}
use Rattle.refusals.specs.declared.Refusal.{Refusal}
use Rattle.refusals.specs.declared.Refusal.TheVariants.{NotInForm, OutOfRange}
use Rattle.text_lines.specs.Line.{edit_form, constraint_form, word_read, Shape, edit_shape, constraint_shape, shapes, fits_word, said, or_else, read_as, read_by, line_read_in, line_limit}
use Rattle.text_lines.specs.declared.Line.{Line}
use Rattle.text_lines.specs.Pieces.{rule_part}
use Rattle.text_lines.proofs.Signs.{line-ends, letter_after, byte_after, letter_unlike, letter_among, Others, unlike_none, among_none, ends-run, ends-number}

-- the last arm of a match stands for all numbers from there on
pub kind_rest : (n : ℕ) → n ≢ 0 → n ≢ 1 → n ≢ 2 → edit_form n ≡ []
unfolding edit_form
kind_rest zero a b c = absurd (a refl)
kind_rest (suc zero) a b c = absurd (b refl)
kind_rest (suc (suc zero)) a b c = absurd (c refl)
kind_rest (suc (suc (suc n))) a b c = refl

pub rule_rest : (n : ℕ) → n ≢ 0 → n ≢ 1 → n ≢ 2 → rule_part n ≡ bytes " rule= right="
unfolding rule_part rule_words bytes
rule_rest zero a b c = absurd (a refl)
rule_rest (suc zero) a b c = absurd (b refl)
rule_rest (suc (suc zero)) a b c = absurd (c refl)
rule_rest (suc (suc (suc n))) a b c = refl

pub ruleset rests = (kind_rest, rule_rest)

-- how many numbers the forms take
pub edit-slots : (kind : ℕ) → slots (edit_form kind) ≤ 4
unfolding edit_form bytes slots is_mark
edit-slots zero = omega arith
edit-slots (suc zero) = omega arith
edit-slots (suc (suc zero)) = omega arith
edit-slots (suc (suc (suc n))) = omega arith

pub constraint-slots : slots constraint_form ≤ 3
unfolding constraint_form bytes slots is_mark
constraint-slots = omega arith

-- the numbers that the code keeps
pub zero-kept : (n m k : ℕ) → ◌≡◌ {A = ℕ} (get_or (take n (replicate m 0)) k 0) 0
zero-kept zero m k = refl
zero-kept (suc n) zero k = refl
zero-kept (suc n) (suc m) zero = refl
zero-kept (suc n) (suc m) (suc k) = zero-kept n m k

number-kept : (n m : ℕ) (ns : List ℕ) (k : ℕ) → k < n → get_or (take n (map saturated ns ++ replicate m 0)) k 0 ≡ saturated (get_or ns k 0)
number-kept zero m ns k h = absurd (omega arith)
number-kept (suc n) m [] k h = zero-kept (suc n) m k
number-kept (suc n) m (x ∷ ns) zero h = refl
number-kept (suc n) m (x ∷ ns) (suc k) h = number-kept n m ns k (omega arith)

pub kept-number : (ns : List ℕ) (k : ℕ) → k < number_places → get_or (take number_places (map saturated ns ++ replicate number_places 0)) k 0 ≡ saturated (get_or ns k 0)
kept-number ns k h = number-kept number_places number_places ns k h

kept-fits : (n m : ℕ) → m ≡ saturated n → fits_word m ≡ fits_word n
kept-fits n m e =
    by (fits_word n)
    (λ (h : fits_word n ≡ true). let l : n < 4294967296 = ltb-true n 4294967296 h in rw h (lt-ltb m 4294967296 (omega arith)))
    (λ (h : fits_word n ≡ false). let l : 4294967296 ≤ n = ltb-false n 4294967296 h in rw h (le-ltb m 4294967296 (omega arith)))

kept-same : (n m : ℕ) → m ≡ saturated n → fits_word n ≡ true → m ≡ n
kept-same n m e h = e ∙ saturated-same n (ltb-true n 4294967296 h)

-- a number that fits, or does not
module _ (n : ℕ) where
  pub word-fits : {y : ℕ} → Ok y ≡ word_read n → fits_word n ≡ true
  word-fits h = by (fits_word n) (λ (e : fits_word n ≡ true). e) (λ (e : fits_word n ≡ false). let q = rw e at h in (cc))

  pub word-same : {y : ℕ} → Ok y ≡ word_read n → y ≡ n
  word-same h = let q = rw (word-fits h) at h in (cc)

  pub word-large : {r : Refusal} → Err r ≡ word_read n → fits_word n ≡ false
  word-large h = by (fits_word n) (λ (e : fits_word n ≡ true). let q = rw e at h in (cc)) (λ (e : fits_word n ≡ false). e)

  pub word-refused : {r : Refusal} → Err r ≡ word_read n → r ≡ OutOfRange
  word-refused h = let q = rw (word-large h) at h in (cc)

-- all fit as each does
pub cell-fits : (ns : List ℕ) (k : ℕ) → all fits_word ns ≡ true → fits_word (get_or ns k 0) ≡ true
unfolding all
cell-fits [] k h = refl
cell-fits (n ∷ ns) zero h = and_l (fits_word n) (all fits_word ns) h
cell-fits (n ∷ ns) (suc k) h = cell-fits ns k (and_r (fits_word n) (all fits_word ns) h)

each-fits : (ns : List ℕ) → ((k : ℕ) → fits_word (get_or ns k 0) ≡ true) → all fits_word ns ≡ true
unfolding all
each-fits [] h = refl
each-fits (n ∷ ns) h = rw (h 0) (each-fits ns (λ k. h (suc k)))

-- what is said goes by the numbers alone, of which a missing one is 0
abbrev pub SameNumbers : List ℕ → List ℕ → Type 0
SameNumbers ms ns = (k : ℕ) → get_or ms k 0 ≡ get_or ns k 0

abbrev pub Fair : Shape → Type 0
Fair shape = (ms ns : List ℕ) → SameNumbers ms ns → shape.says ms ≡ shape.says ns

pub edit-fair : (kind : ℕ) → Fair (edit_shape kind)
edit-fair kind ms ns a = rw (a 0, a 1, a 2, a 3)

pub constraint-fair : Fair constraint_shape
constraint-fair ms ns a = rw (a 0, a 1, a 2)

-- a form takes as many numbers as it has marks
nothing-slots : (N : Notation) (s ns : List ℕ) → taken_in N [] s ≡ some ns → length ns ≡ 0
unfolding taken_in
nothing-slots N [] ns h = let e : ns ≡ [] = cc in ap length e
nothing-slots N (x ∷ s) ns h = none-some refl h

before-slots : (n : ℕ) (o : Option (List ℕ)) (k : ℕ) {ns : List ℕ} → number_before n o ≡ some ns → ((ms : List ℕ) → o ≡ some ms → length ms ≡ k) → length ns ≡ suc k
before-slots n none k h f = none-some refl h
before-slots n (some ms) k {ns} h f = let e : ns ≡ n ∷ ms = cc in ap length e ∙ ap suc (f ms refl)

pub taken-slots : (N : Notation) (f s ns : List ℕ) → taken_in N f s ≡ some ns → length ns ≡ slots f
unfolding slots
taken-slots N [] s ns h = nothing-slots N s ns h
taken-slots N (c ∷ f) s ns h =
    by (is_mark c)
    (λ (m : is_mark c ≡ true).
    is-by ((spelling_in N c).size s) 0
    (λ z. none-some (mark-missing N c f m s z) h)
    (λ z.
    let rest = drop ((spelling_in N c).size s) s in
    rw m (before-slots ((spelling_in N c).value s) (taken_in N f rest) (slots f) (sym (mark-taken N c f m s z) ∙ h) (λ ms q. taken-slots N f rest ms q))))
    (λ (m : is_mark c ≡ false).
    by (begins_with c s)
    (λ b. rw m (taken-slots N f (drop 1 s) ns (sym (byte-taken N c f m s b) ∙ h)))
    (λ b. none-some (byte-missing N c f m s b) h))

-- What the code's answer says of a form.
no-fit : (o : Option (List ℕ)) → None ≡ filled_of o → o ≡ none
no-fit none e = refl
no-fit (some ns) e = (cc)

fit : {P : Type 0} (o : Option (List ℕ)) {numbers : List ℕ} → Some numbers ≡ filled_of o
    → ((ns : List ℕ) → o ≡ some ns → numbers ≡ take number_places (map saturated ns ++ replicate number_places 0) → P) → P
fit none e k = let z : ⊥ = cc in absurd z
fit (some ns) e k = k ns refl (cc)

-- the words of some numbers, from one of them on
abbrev pub Words : List ℕ → List ℕ → ℕ → Type 0
Words numbers [] k = Unit
Words numbers (w ∷ ws) k = (Ok w ≡ word_read (get_or numbers k 0)) × Words numbers ws (suc k)

word-at : (numbers ws : List ℕ) (k : ℕ) → Words numbers ws k → (i : ℕ) → i < length ws → Ok (get_or ws i 0) ≡ word_read (get_or numbers (k + i) 0)
word-at numbers [] k h i l = absurd (omega arith)
word-at numbers (w ∷ ws) k h zero l = let e : k + 0 ≡ k = omega arith in rw e h.0
word-at numbers (w ∷ ws) k h (suc i) l = let e : k + suc i ≡ suc k + i = omega arith in rw e (word-at numbers ws (suc k) h.1 i (omega arith))

module _ (N : Notation) (shape : Shape) (s : List ℕ) where
  pub not-said : None ≡ filled_of (taken_in N shape.form s) → Err NotInForm ≡ read_as N shape s
  unfolding read_as
  not-said h = rw (no-fit (taken_in N shape.form s) h)

  module _ {numbers : List ℕ} (e : Some numbers ≡ filled_of (taken_in N shape.form s)) where
    taken-by : {P : Type 0} → ((ns : List ℕ) → taken_in N shape.form s ≡ some ns → ((k : ℕ) → k < number_places → get_or numbers k 0 ≡ saturated (get_or ns k 0)) → P) → P
    taken-by f = fit (taken_in N shape.form s) e (λ ns q r. f ns q (λ k h. ap (λ (l : List ℕ). get_or l k 0) r ∙ kept-number ns k h))

    pub number-large : (k : ℕ) → k < number_places → fits_word (get_or numbers k 0) ≡ false → Err OutOfRange ≡ read_as N shape s
    unfolding read_as
    number-large k h g =
        taken-by (λ ns q r.
        by (all fits_word ns)
        (λ (a : all fits_word ns ≡ true). clash (cell-fits ns k a) (sym (kept-fits (get_or ns k 0) (get_or numbers k 0) (r k h)) ∙ g))
        (λ (a : all fits_word ns ≡ false). rw (q, a)))

    -- words of as many numbers as the form has
    pub words-said : Fair shape → (ws : List ℕ) → slots shape.form ≤ length ws → length ws ≤ number_places → Words numbers ws 0 → Ok (shape.says ws) ≡ read_as N shape s
    unfolding read_as
    words-said f ws l m w =
        taken-by (λ ns q r.
        let t : length ns ≤ length ws = omega (arith, taken-slots N shape.form s ns q) in
        let same : (k : ℕ) → (fits_word (get_or ns k 0) ≡ true) × (get_or ws k 0 ≡ get_or ns k 0) =
        (λ k. le-by (length ws) k
        (λ h. let z : get_or ns k 0 ≡ 0 = get_or_past ns k 0 (omega arith) in (ap fits_word z, get_or_past ws k 0 h ∙ sym z))
        (λ h. let z : 0 + k ≡ k = omega arith in
        let p : Ok (get_or ws k 0) ≡ word_read (get_or numbers k 0) = rw z at (word-at numbers ws 0 w k h) in
        let u : get_or numbers k 0 ≡ saturated (get_or ns k 0) = r k (omega arith) in
        let v : fits_word (get_or ns k 0) ≡ true = sym (kept-fits (get_or ns k 0) (get_or numbers k 0) u) ∙ word-fits (get_or numbers k 0) p in
        (v, word-same (get_or numbers k 0) p ∙ kept-same (get_or ns k 0) (get_or numbers k 0) u v))) in
        rw (q, each-fits ns (λ k. (same k).0)) (ap (λ (line : Line). Ok line) (f ws ns (λ k. (same k).1))))

-- what is there, or refused
pub there : (o : Answer (List ℕ)) {r : Result (List ℕ) Refusal} {a : List ℕ} → r ≡ ok_or o NotInForm → r ≡ Ok a → Some a ≡ o
there None e f = let z : ⊥ = cc in absurd z
there (Some x) e f = cc

pub none-read : (o : Answer (List ℕ)) {r : Result (List ℕ) Refusal} {g : Refusal} → r ≡ ok_or o NotInForm → r ≡ Err g → (None ≡ o) × (NotInForm ≡ g)
none-read None e f = (refl, cc)
none-read (Some x) e f = let z : ⊥ = cc in absurd z

-- Shapes whose form does not take the text may be left out.
module _ (N : Notation) (s : List ℕ) where
  shapes-left : (test : List ℕ → Bool) → ((form : List ℕ) → test form ≡ true → taken_in N form s ≡ none) → (hs : List Shape) → read_by N hs s ≡ read_by N (filter (λ h. not (test h.form)) hs) s
  unfolding read_by read_as filter
  shapes-left test k [] = refl
  shapes-left test k (h ∷ hs) =
      by (test h.form)
      (λ (e : test h.form ≡ true). rw (e, k h.form e) (shapes-left test k hs))
      (λ (e : test h.form ≡ false). rw (e, shapes-left test k hs))

  shape-alone : (h : Shape) → read_by N (h ∷ []) s ≡ read_as N h s
  unfolding read_by read_as
  shape-alone h = go (taken_in N h.form s)
    where
      go : (o : Option (List ℕ)) → or_else (said h o) (Err NotInForm) ≡ said h o
      go none = refl
      go (some ns) = by (all fits_word ns) (λ (e : all fits_word ns ≡ true). rw e) (λ (e : all fits_word ns ≡ false). rw e)

-- the letters that the kinds are told by: i, s, r
abbrev pub kind_letter : ℕ → ℕ
kind_letter zero = 105
kind_letter (suc zero) = 115
kind_letter (suc (suc n)) = 114

abbrev kind_letters : List ℕ
kind_letters = 105 ∷ 115 ∷ 114 ∷ []

abbrev line_letters : List ℕ
line_letters = 105 ∷ 102 ∷ []

abbrev edits : List Shape
edits = edit_shape 0 ∷ edit_shape 1 ∷ edit_shape 2 ∷ []

-- the shapes that a letter leaves, and those that are left where it is none of these
abbrev letter_leaves : String → ℕ → List Shape → List Shape
letter_leaves beginning letter hs = filter (λ h. not (letter_unlike (bytes beginning) letter h.form)) hs

abbrev others_leave : String → List ℕ → List Shape → List Shape
others_leave beginning keys hs = filter (λ h. not (letter_among keys (bytes beginning) h.form)) hs

edits-left : letter_leaves ".." 105 shapes ≡ edits
unfolding shapes edit_form constraint_form filter letter_unlike byte_after bytes is_mark
edits-left = refl

constraint-left : letter_leaves ".." 102 shapes ≡ constraint_shape ∷ []
unfolding shapes edit_form constraint_form filter letter_unlike byte_after bytes is_mark
constraint-left = refl

none-left : others_leave ".." line_letters shapes ≡ []
unfolding shapes edit_form constraint_form filter letter_among byte_after mem bytes is_mark
none-left = refl

kind-left : (kind : ℕ) → kind < 3 → letter_leaves "edit=@ do=" (kind_letter kind) edits ≡ edit_shape kind ∷ []
unfolding edit_form filter letter_unlike byte_after bytes is_mark
kind-left zero h = refl
kind-left (suc zero) h = refl
kind-left (suc (suc zero)) h = refl
kind-left (suc (suc (suc n))) h = absurd (omega arith)

no-kind-left : others_leave "edit=@ do=" kind_letters edits ≡ []
unfolding edit_form filter letter_among byte_after mem bytes is_mark
no-kind-left = refl

module _ (N : Notation) where
  -- the place that the code computes
  kind-place : (s : List ℕ) (name : ℕ) → name ≡ 5 + N.names.size (drop 5 s) → name + 4 ≡ line-ends N (bytes "edit=@ do=") 0 s
  unfolding bytes all is_mark spelling_in
  kind-place s name p = sym (ends-number N (bytes "edit=") 64 (bytes " do=") 0 s refl refl p ∙ ends-run N (bytes " do=") name s refl)

  third-letter : (s : List ℕ) → get_or s 2 0 ≡ letter_after N (bytes "..") s
  unfolding bytes line-ends is_mark
  third-letter s = refl

module _ (N : Notation) (s : List ℕ) where
  by-letter : {r : Result Line Refusal} (beginning : String) (letter : ℕ) (hs : List Shape) {left : List Shape} → letter_after N (bytes beginning) s ≡ letter → letter_leaves beginning letter hs ≡ left
      → r ≡ read_by N left s → r ≡ read_by N hs s
  by-letter beginning letter hs e k q =
      q ∙ ap (λ (l : List Shape). read_by N l s) (sym k)
      ∙ sym (shapes-left N s (letter_unlike (bytes beginning) letter) (λ form h. unlike_none N (bytes beginning) form s letter e h) hs)

  by-others : {r : Result Line Refusal} (beginning : String) (keys : List ℕ) (hs : List Shape) → Others keys (letter_after N (bytes beginning) s) → others_leave beginning keys hs ≡ []
      → r ≡ Err NotInForm → r ≡ read_by N hs s
  unfolding read_by
  by-others beginning keys hs o k q =
      q ∙ ap (λ (l : List Shape). read_by N l s) (sym k)
      ∙ sym (shapes-left N s (letter_among keys (bytes beginning)) (λ form h. among_none N keys (bytes beginning) form s o h) hs)

  -- an edit's line, by the letter after the name
  module _ (third : get_or s 2 0 ≡ 105) (name : ℕ) (p : name ≡ 5 + N.names.size (drop 5 s)) {x : ℕ} (l : x ≡ get_or s (name + 4) 0) where
    letter-is : letter_after N (bytes "edit=@ do=") s ≡ x
    letter-is = ap (λ (k : ℕ). get_or s k 0) (sym (kind-place N s name p)) ∙ sym l

    of-edits : {r : Result Line Refusal} → r ≡ read_by N edits s → r ≡ read_by N shapes s
    of-edits q = by-letter ".." 105 shapes (sym (third-letter N s) ∙ third) edits-left q

    pub told-kind : {r : Result Line Refusal} (kind : ℕ) → kind < 3 → x ≡ kind_letter kind → r ≡ read_as N (edit_shape kind) s → r ≡ read_by N shapes s
    told-kind kind h e q = of-edits (by-letter "edit=@ do=" (kind_letter kind) edits (letter-is ∙ e) (kind-left kind h) (q ∙ sym (shape-alone N s (edit_shape kind))))

    pub told-no_kind : {r : Result Line Refusal} → x ≢ 105 → x ≢ 115 → x ≢ 114 → r ≡ Err NotInForm → r ≡ read_by N shapes s
    told-no_kind a b c q = of-edits (by-others "edit=@ do=" kind_letters edits (rw letter-is (((tt, c), b), a)) no-kind-left q)

  -- the whole line, by its third letter
  module _ {x : ℕ} (l : x ≡ get_or s 2 0) where
    pub told-constraint : {r : Result Line Refusal} → x ≡ 102 → r ≡ read_as N constraint_shape s → r ≡ read_by N shapes s
    told-constraint e q = by-letter ".." 102 shapes (sym (third-letter N s) ∙ sym l ∙ e) constraint-left (q ∙ sym (shape-alone N s constraint_shape))

    pub told-no_line : {r : Result Line Refusal} → x ≢ 105 → x ≢ 102 → r ≡ Err NotInForm → r ≡ read_by N shapes s
    told-no_line a b q = by-others ".." line_letters shapes (rw (← third-letter N s, ← l) ((tt, b), a)) none-left q

module _ (N : Notation) (s : List ℕ) {r : Result Line Refusal} where
  pub too_long : line_limit < length s → r ≡ Err NotInForm → r ≡ line_read_in N s
  unfolding line_read_in
  too_long h e = rw (lt-ltb line_limit (length s) h) e

  pub whole : length s ≤ line_limit → r ≡ read_by N shapes s → r ≡ line_read_in N s
  unfolding line_read_in
  whole h e = rw (le-ltb line_limit (length s) h) e

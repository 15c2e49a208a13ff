-- Lines of the exchanged text, alone and after a record's number. Assumes nothing.
use mathlib.Core.Path.{◌≡◌, refl, ap, sym, ◌∙◌}
use mathlib.Core.Bool.{true, false, cond, not, and-false, and-true}
use mathlib.Core.Logic.{◌≢◌}
use mathlib.Core.List.{List, [], ◌∷◌, ◌++◌, map}
use mathlib.Core.Option.{Option, none, some}
use Prim.Native.Nat.{ℕ, suc, ◌+◌, ◌-◌, ◌≤◌}
use native.Mathlib.Omega.{arith}
use borrow.Author.Tests.{eq-eqb, ne_eqb, le-ltb, ltb-true, not-true}
use lib.Dec.{eqb}
use lib.ListN.{length, get_or, take, drop, length-drop, get_or-eq_default}
use lib.Seq.{drop-drop}
use Rattle.lists.specs.Lists.{all}
use Rattle.lists.proofs.Lists.{by, le-by, and_l, and_r}
use Rattle.text_forms.specs.decimal.Decimal.{numeral_size, numeral_value, saturated, numeral_read}
use Rattle.text_forms.specs.declared.decimal.Numeral.{Numeral}
use Rattle.text_forms.proofs.decimal.Laws.{number_short}
use Rattle.text_lines.proofs.Says.{word-fits, word-same, word-large, word-refused}
use Rattle.text_lines.proofs.Signs.{no-numeral, the-size, the-value, some-size, first-at}
use Rattle.text_forms.proofs.decimal.RoundTrip.{saturated-test, saturated-same}
use Rattle.text_forms.specs.Spelling.{bytes, starts_with, number_spelling, decimal_notation}
use Rattle.text_forms.specs.Form.{is_mark, spelling_in, number_before, begins_with, taken}
use Rattle.text_forms.proofs.Marks.{word-starts}
use lib.Pointwise.{pointwise}
use Rattle.std.specs.Prelude.{Option as Answer, Some, None, Result, Ok, Err}
use Rattle.refusals.specs.declared.Refusal.{Refusal}
use Rattle.refusals.specs.declared.Refusal.TheVariants.{NotInForm, OutOfRange}
use Rattle.refusals.specs.Numbers.{number_of}
use Rattle.text_forms.proofs.Forms.{plain, mark-taken, mark-missing, byte-taken, byte-missing}
use Rattle.text_lines.specs.declared.Line.{Line}
use Rattle.text_lines.specs.Line.{Shape, shapes, fits_word, word_read, said, read_as, read_by, line_read_in, line_read, line_limit}
use Rattle.log_forms.specs.productions.Productions.{Production, meant, parse}
use Rattle.text_lines.proofs.Signs.{letter_after}
use Rattle.log_forms.proofs.productions.Choosing.{letter_leaves, letter-keeps}
use Rattle.log_commands.specs.Grammar.{adding, lending_to, add_form, lend_form}
use Rattle.log_commands.specs.Groups.{line_adds, line_lends, lent_number, lent_line_read}
use Rattle.log_commands.specs.declared.Command.{Command}
use Rattle.std.proofs.lemmas.List.{take_rest}

-- a shape says a row, of the first four numbers
abbrev OfFour : Shape → Type 0
OfFour shape = (ns : List ℕ) → shape.says (get_or ns 0 0 ∷ get_or ns 1 0 ∷ get_or ns 2 0 ∷ get_or ns 3 0 ∷ []) ≡ shape.says ns

abbrev AllOfFour : List Shape → Type 0
AllOfFour [] = Unit
AllOfFour (shape ∷ rest) = OfFour shape × AllOfFour rest

shapes-of-four : AllOfFour shapes
unfolding shapes
shapes-of-four = (λ ns. refl, (λ ns. refl, (λ ns. refl, (λ ns. refl, tt))))

-- the productions made of shapes read a text s as the shapes read t
module _ (production : Shape → Production (Result Command Refusal)) (command : Result Line Refusal → Result Command Refusal) (s t : List ℕ)
    (refused : command (Err NotInForm) ≡ Err NotInForm)
    (missed : (shape : Shape) → taken shape.form t ≡ none → taken (production shape).form s ≡ none)
    (met : (shape : Shape) (ns : List ℕ) (other : Result Command Refusal) → OfFour shape → taken shape.form t ≡ some ns
    → meant Err (production shape).meaning (taken (production shape).form s) other ≡ command (said shape (some ns))) where
  shape-number : (shape : Shape) (ns : List ℕ) → eqb (number_of (said shape (some ns))) 1 ≡ false
  shape-number shape ns =
      by (all fits_word ns)
      (λ (e : all fits_word ns ≡ true). rw e)
      (λ (e : all fits_word ns ≡ false). rw e)

  shapes-read : (hs : List Shape) → AllOfFour hs → parse Err (map production hs) s ≡ command (read_by decimal_notation hs t)
  unfolding parse read_by read_as
  shapes-read [] f = sym refused
  shapes-read (shape ∷ hs) f = go (taken shape.form t) refl (shapes-read hs f.1)
    where
      go : (o : Option (List ℕ)) → taken shape.form t ≡ o → parse Err (map production hs) s ≡ command (read_by decimal_notation hs t)
          → parse Err (map production (shape ∷ hs)) s ≡ command (read_by decimal_notation (shape ∷ hs) t)
      go none e q = rw (missed shape e, e) q
      go (some ns) e q = met shape ns (parse Err (map production hs) s) f.0 e ∙ rw (e, shape-number shape ns)

-- a line of the exchanged text adds its row
module _ (s : List ℕ) (h : length s ≤ line_limit) where
  line-short : line_read s ≡ read_by decimal_notation shapes s
  unfolding line_read_in
  line-short = rw (le-ltb line_limit (length s) h)

  pub line-added : {r : Result Command Refusal} → r ≡ line_adds (line_read s) → r ≡ parse Err (map add_form shapes) s
  line-added e = e ∙ rw line-short (sym (shapes-read add_form line_adds s s refl (λ shape q. q) met shapes shapes-of-four))
    where
      met : (shape : Shape) (ns : List ℕ) (other : Result Command Refusal) → OfFour shape → taken shape.form s ≡ some ns
          → meant Err (add_form shape).meaning (taken shape.form s) other ≡ line_adds (said shape (some ns))
      met shape ns other f e =
          by (all fits_word ns)
          (λ (a : all fits_word ns ≡ true). rw (e, a) (ap (λ (l : Line). Ok (adding l)) (f ns)))
          (λ (a : all fits_word ns ≡ false). rw (e, a))

-- a word in front of a form
word-taken : (word f s : List ℕ) → plain word ≡ true → taken (word ++ f) s ≡ cond (starts_with word s) (taken f (drop (length word) s)) none
unfolding all starts_with
word-taken [] f s h = refl
word-taken (c ∷ word) f [] h = byte-missing decimal_notation c (word ++ f) (not-true (is_mark c) (and_l (not (is_mark c)) (plain word) h)) [] refl
word-taken (c ∷ word) f (x ∷ s) h =
    let m : is_mark c ≡ false = not-true (is_mark c) (and_l (not (is_mark c)) (plain word) h) in
    by (eqb c x)
    (λ (e : eqb c x ≡ true). byte-taken decimal_notation c (word ++ f) m (x ∷ s) e ∙ rw e (word-taken word f s (and_r (not (is_mark c)) (plain word) h)))
    (λ (e : eqb c x ≡ false). byte-missing decimal_notation c (word ++ f) m (x ∷ s) e ∙ rw e)

-- the record's number that a line begins with
module _ (s : List ℕ) where
  pub lent_other : pointwise eqb (bytes "lent=") (take 5 s) ≡ false → None ≡ lent_number s
  unfolding lent_number bytes
  lent_other h = rw (sym (word-starts (bytes "lent=") s) ∙ h)

  pub lent-begun : {r : Answer Numeral} → pointwise eqb (bytes "lent=") (take 5 s) ≡ true → r ≡ numeral_read (take (length s - 5) (drop 5 s)) → r ≡ lent_number s
  unfolding lent_number bytes
  lent-begun h q = q ∙ rw (sym (word-starts (bytes "lent=") s) ∙ h, take_rest s 5)

-- words that are refused, but not as out of form
pub refused-other : {r : Refusal} → (r ≡ NotInForm → ⊥) → ◌≡◌ {A = Result (List ℕ) Refusal} (Err r) (Err NotInForm) → ⊥
refused-other {r} h z = let q : r ≡ NotInForm = cc in h q

-- what is lent by a number that fits, or does not
module _ (n : ℕ) (line : Line) where
  pub lends-large : {r : Refusal} → Err r ≡ word_read n → Err r ≡ line_lends n (Ok line)
  lends-large e = rw (word-large n e) (ap Err (word-refused n e))

  pub lends-fit : {m : ℕ} {command : Command} → Ok m ≡ word_read n → command ≡ lending_to m line → Ok command ≡ line_lends n (Ok line)
  lends-fit e q = rw (word-fits n e) (ap Ok (q ∙ ap (λ (k : ℕ). lending_to k line) (word-same n e)))

-- the first byte of a part
begins-other : (c : ℕ) (t : List ℕ) → get_or t 0 0 ≢ c → begins_with c t ≡ false
begins-other c [] h = refl
begins-other c (x ∷ t) h = ne_eqb c x (λ e. h (sym e))

begins-so : (c : ℕ) (t : List ℕ) → get_or t 0 0 ≡ suc c → begins_with (suc c) t ≡ true
begins-so c [] h = absurd (omega arith)
begins-so c (x ∷ t) h = eq-eqb (suc c) x (sym h)

letter-inside : (s : List ℕ) (n : ℕ) {c : ℕ} → get_or s n 0 ≡ suc c → n + 1 ≤ length s
letter-inside s n e = le-by (length s) n (λ h. absurd (omega (arith, get_or-eq_default s 0 {n = n} h))) (λ h. omega arith)

-- a number cut off at 2^32 lends the same
lends-saturated : (n : ℕ) (line : Result Line Refusal) → line_lends (saturated n) line ≡ line_lends n line
lends-saturated n (Err refusal) = refl
lends-saturated n (Ok line) =
    by (fits_word n)
    (λ (e : fits_word n ≡ true). rw (saturated-same n (ltb-true n 4294967296 e)))
    (λ (e : fits_word n ≡ false). rw (saturated-test n, e))

lends-read : (s t : List ℕ) (n : ℕ) → ((f : List ℕ) → taken (bytes "lent=# " ++ f) s ≡ number_before n (taken f t)) → parse Err (map lend_form shapes) s ≡ line_lends n (read_by decimal_notation shapes t)
unfolding all
lends-read s t n h = shapes-read lend_form (line_lends n) s t refl (λ shape q. h shape.form ∙ ap (number_before n) q) met shapes shapes-of-four
  where
    met : (shape : Shape) (ns : List ℕ) (other : Result Command Refusal) → OfFour shape → taken shape.form t ≡ some ns
        → meant Err (lend_form shape).meaning (taken (bytes "lent=# " ++ shape.form) s) other ≡ line_lends n (said shape (some ns))
    met shape ns other f e =
        by (all fits_word ns)
        (λ (a : all fits_word ns ≡ true).
        rw (h shape.form, e, a, and-true (fits_word n)) (ap (λ (l : Line). cond (fits_word n) (Ok (lending_to n l)) (Err OutOfRange)) (f ns)))
        (λ (a : all fits_word ns ≡ false). rw (h shape.form, e, a, and-false (fits_word n)))

-- a line after a record's number lends its row
module _ (s : List ℕ) where
  abbrev after : List ℕ
  after = drop 5 s

  lent-taken : (f : List ℕ) → taken (bytes "lent=# " ++ f) s ≡ cond (starts_with (bytes "lent=") s) (taken (35 ∷ 32 ∷ f) after) none
  unfolding bytes all is_mark
  lent-taken f = word-taken (bytes "lent=") (35 ∷ 32 ∷ f) s refl

  -- no form of these takes the line
  none_lent : ((f : List ℕ) → taken (bytes "lent=# " ++ f) s ≡ none) → Err NotInForm ≡ lent_line_read s
  unfolding lent_line_read parse
  none_lent h = go shapes
    where
      go : (hs : List Shape) → Err NotInForm ≡ parse Err (map lend_form hs) s
      go [] = refl
      go (shape ∷ hs) = rw (h shape.form) (go hs)

  pub no-lent-number : None ≡ lent_number s → Err NotInForm ≡ lent_line_read s
  unfolding lent_number is_mark spelling_in number_spelling
  no-lent-number e =
      none_lent (λ f. lent-taken f ∙
      by (starts_with (bytes "lent=") s)
      (λ (w : starts_with (bytes "lent=") s ≡ true). rw w (mark-missing decimal_notation 35 (32 ∷ f) refl after (no-numeral after (rw w at e))))
      (λ (w : starts_with (bytes "lent=") s ≡ false). rw w))

  pub lent-missing : (r : Refusal) → ◌≡◌ {A = Result Numeral Refusal} (Err r) (Err NotInForm) → None ≡ lent_number s → Err r ≡ lent_line_read s
  lent-missing r q e = let p : r ≡ NotInForm = cc in rw p (no-lent-number e)

  module _ {lent : Numeral} (e : Some lent ≡ lent_number s) where
    begun : starts_with (bytes "lent=") s ≡ true
    unfolding lent_number
    begun =
        by (starts_with (bytes "lent=") s)
        (λ w. w)
        (λ (w : starts_with (bytes "lent=") s ≡ false). let q = rw w at e in (cc))

    lent_is : Some lent ≡ numeral_read after
    unfolding lent_number
    lent_is = rw begun at e

    size_is : lent.size ≡ numeral_size after
    size_is = the-size after lent_is

    value_is : lent.value ≡ saturated (numeral_value after)
    value_is = the-value after lent_is

    h : lent.size ≢ 0
    h z = some-size after lent_is (sym size_is ∙ z)

    number-taken : (f : List ℕ) → taken (bytes "lent=# " ++ f) s ≡ number_before (numeral_value after) (taken (32 ∷ f) (drop (5 + lent.size) s))
    unfolding is_mark spelling_in number_spelling
    number-taken f =
        lent-taken f
        ∙ rw begun (mark-taken decimal_notation 35 (32 ∷ f) refl after (λ z. h (size_is ∙ z)) ∙ rw (← size_is, drop-drop lent.size 5 s))

    pub lent-inside : 5 + lent.size ≤ length s
    lent-inside = omega (arith, size_is, h, number_short after, length-drop 5 s)

    module _ {space : ℕ} (b : space ≡ get_or s (5 + lent.size) 0) where
      pub no-space : space ≢ 32 → Err NotInForm ≡ lent_line_read s
      unfolding is_mark
      no-space n =
          none_lent (λ f. number-taken f ∙ ap (number_before (numeral_value after))
          (byte-missing decimal_notation 32 f refl (drop (5 + lent.size) s) (begins-other 32 (drop (5 + lent.size) s) (λ z. n (b ∙ first-at (5 + lent.size) s ∙ z)))))

      module _ (x : space ≡ 32) where
        pub space-inside : 5 + lent.size + 1 ≤ length s
        space-inside = letter-inside s (5 + lent.size) (sym b ∙ x)

        line_taken : (f : List ℕ) → taken (bytes "lent=# " ++ f) s ≡ number_before (numeral_value after) (taken f (drop (5 + lent.size + 1) s))
        unfolding is_mark
        line_taken f =
            number-taken f ∙ ap (number_before (numeral_value after))
            (byte-taken decimal_notation 32 f refl (drop (5 + lent.size) s) (begins-so 31 (drop (5 + lent.size) s) space-begins) ∙ ap (taken f) (drop-drop 1 (5 + lent.size) s))
          where
            space-begins : get_or (drop (5 + lent.size) s) 0 0 ≡ 32
            space-begins = sym (first-at (5 + lent.size) s) ∙ sym b ∙ x

        pub line-lent : {r : Result Command Refusal} → length s ≤ line_limit
            → r ≡ line_lends lent.value (line_read (take (length s - (5 + lent.size + 1)) (drop (5 + lent.size + 1) s))) → r ≡ lent_line_read s
        unfolding lent_line_read
        line-lent l q =
            let start = 5 + lent.size + 1 in
            let u : length (drop start s) ≤ line_limit = omega (arith, length-drop start s) in
            q
            ∙ rw (take_rest s start, line-short (drop start s) u)
            (ap (λ (n : ℕ). line_lends n (read_by decimal_notation shapes (drop start s))) value_is ∙ lends-saturated (numeral_value after) (read_by decimal_notation shapes (drop start s)))
            ∙ sym (lends-read s (drop start s) (numeral_value after) line_taken)

-- of the forms of lines of the exchanged text a letter leaves the same
module _ (s : List ℕ) {x : ℕ} {r : Result Command Refusal} where
  pub added-kept : length s ≤ line_limit → x ≡ letter_after decimal_notation (bytes "..") s → (letter : ℕ) → x ≡ letter → r ≡ line_adds (line_read s)
      → r ≡ parse Err (letter_leaves (bytes "..") letter (map add_form shapes)) s
  added-kept h e letter l q = letter-keeps Err (bytes "..") s e (map add_form shapes) letter l (line-added s h q)

  pub lent-kept : x ≡ letter_after decimal_notation (bytes "lent=# ") s → (letter : ℕ) → x ≡ letter → r ≡ lent_line_read s → r ≡ parse Err (letter_leaves (bytes "lent=# ") letter (map lend_form shapes)) s
  unfolding lent_line_read
  lent-kept e letter l q = letter-keeps Err (bytes "lent=# ") s e (map lend_form shapes) letter l q

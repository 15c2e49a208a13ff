-- The arms that a letter leads to. Assumes nothing.
use mathlib.Core.Path.{◌≡◌, refl, ap, sym, ◌∙◌}
use mathlib.Core.Bool.{Bool, true, false, cond, not}
use mathlib.Core.Logic.{◌≢◌}
use mathlib.Core.List.{List, [], ◌∷◌, map}
use Prim.Native.Nat.{ℕ, ◌+◌, ◌≤◌, ◌<◌, max}
use borrow.Author.Tests.{lt-ltb, le-ltb, eqb-false, ne_eqb}
use lib.Dec.{eqb, leb}
use lib.ListN.{length, get_or, take, drop}
use Rattle.lists.specs.Lists.{all, mem, filter}
use Rattle.lists.proofs.Lists.{by, clash}
use Rattle.text_forms.specs.decimal.Decimal.{numeral_size}
use Rattle.text_forms.specs.Spelling.{bytes, starts_with, number_spelling, decimal_notation}
use Rattle.text_forms.specs.Form.{is_mark, spelling_in, taken, number_places}
use Rattle.text_forms.proofs.Forms.{slots}
use Rattle.text_lines.specs.Line.{edit_form, constraint_form, shapes, line_limit, line_read}
use Rattle.text_lines.proofs.Signs.{line-ends, letter_after, letter_other, letter_among, byte_after, Others, ends-number, ends-run}
use Rattle.std.specs.Prelude.{Result, Ok, Err}
use Rattle.refusals.specs.declared.Refusal.{Refusal}
use Rattle.refusals.specs.declared.Refusal.TheVariants.{NotInForm}
use Rattle.log_forms.specs.productions.Productions.{Production, parse}
use Rattle.log_forms.specs.productions.Words.{words_of, words_read}
use Rattle.log_forms.proofs.productions.Choosing as choosing
use Rattle.log_commands.specs.Grammar.{command_forms, add_form, lend_form, grammar, command_read}
use Rattle.log_commands.specs.Groups.{command_said, number_said, number_read, by_number, read_after, line_adds, lent_line_read}
use Rattle.log_commands.specs.declared.Command.{Command}
use Rattle.log_commands.proofs.Exchanged.{added-kept, lent-kept}

-- the forms that start so
abbrev pub forms_after : List ℕ → List (Production (Result Command Refusal))
forms_after beginning = filter (λ p. starts_with beginning p.form) grammar

-- A form, or a group of forms that start so, is told by the letter after the longest beginning that it shares with another.
unfoldable pub shared_size : List ℕ → List ℕ → ℕ
shared_size [] g = 0
shared_size (c ∷ f) [] = 0
shared_size (c ∷ f) (d ∷ g) = cond (eqb c d) (shared_size f g + 1) 0

unfoldable pub longest : List ℕ → List (Production (Result Command Refusal)) → ℕ
longest f [] = 0
longest f (production ∷ rest) = max (cond (starts_with f production.form) 0 (shared_size f production.form)) (longest f rest)

unfoldable pub beginning_of : List ℕ → List ℕ
beginning_of f = take (longest f grammar) f

unfoldable pub letter_of : List ℕ → ℕ
letter_of f = get_or f (longest f grammar) 0

unfoldable pub left_of : List ℕ → List (Production (Result Command Refusal))
left_of f = choosing.letter_leaves (beginning_of f) (letter_of f) (forms_after (beginning_of f))

-- the letters of forms after a beginning
unfoldable pub letters : List ℕ → List (Production (Result Command Refusal)) → List ℕ
letters beginning productions = filter (λ c. not (is_mark c)) (map (λ p. get_or p.form (length beginning) 0) productions)

unfoldable pub others_of : List ℕ → List (Production (Result Command Refusal)) → List (Production (Result Command Refusal))
others_of beginning productions = choosing.others_leave beginning (letters beginning productions) productions

unfoldable pub last_of : List ℕ → List (Production (Result Command Refusal))
last_of f = others_of (beginning_of f) (forms_after (beginning_of f))

-- A form of numbers after a record's number is tried, and where the line is not in it the lines of the exchanged text.
unfoldable pub lent_left : List ℕ → List (Production (Result Command Refusal))
lent_left f = choosing.letter_leaves (bytes "lent=# ") (get_or f 7 0) (forms_after (bytes "lent=# "))

-- one is left at least, with no more numbers than the code keeps
abbrev pub is_first : List (Production (Result Command Refusal)) → Bool
is_first [] = false
is_first (production ∷ rest) = leb (slots production.form) number_places

first_of : (productions : List (Production (Result Command Refusal))) (s : List ℕ) {r : Result Command Refusal} → is_first productions ≡ true → {w : Result (List ℕ) Refusal} → w ≡ words_of (taken (choosing.first_form productions) s)
    → w ≢ Err NotInForm → r ≡ choosing.made Err w (choosing.first_meaning Err productions) → r ≡ parse Err productions s
first_of [] s h e n q = clash h refl
first_of (production ∷ rest) s h e n q = choosing.first-production Err s production rest h e n q

others-of : (productions : List (Production (Result Command Refusal))) (s : List ℕ) {r : Result Command Refusal} → is_first productions ≡ true → {w : Result (List ℕ) Refusal} → w ≡ words_of (taken (choosing.first_form productions) s)
    → w ≡ Err NotInForm → r ≡ parse Err (drop 1 productions) s → r ≡ parse Err productions s
others-of [] s h e n q = clash h refl
others-of (production ∷ rest) s h e n q = choosing.other-production Err s production rest h e n q

-- what computes from the grammar
unfoldable pub computed : Unit {0}
unfolding command_forms grammar shapes edit_form constraint_form filter mem bytes starts_with is_mark spelling_in number_spelling slots letter_other letter_among byte_after line-ends shared_size longest beginning_of letter_of left_of letters others_of last_of lent_left
computed = tt

other-is : (keys : List ℕ) (x : ℕ) → mem x keys ≡ false → Others keys x
unfolding mem
other-is [] x h = tt
other-is (key ∷ keys) x h =
    by (eqb x key)
    (λ (e : eqb x key ≡ true). clash (sym (rw e at h)) refl)
    (λ (e : eqb x key ≡ false). (other-is keys x (rw e at h), eqb-false x key e))

by-number-said : (w : Result (List ℕ) Refusal) (meaning : (ℕ → ℕ) → Result Command Refusal) → meaning ≡ (λ n. meaning (λ k. n 0)) → by_number (number_said w) meaning ≡ command_said w meaning
by-number-said (Ok words) meaning m = sym (ap (λ (f : (ℕ → ℕ) → Result Command Refusal). f (λ k. get_or words k 0)) m)
by-number-said (Err refusal) meaning m = refl

module _ (f s : List ℕ) where
  -- what the form says that its letter leaves
  pub told_arm : letter_after decimal_notation (beginning_of f) s ≡ letter_of f → choosing.is_one (left_of f) ≡ true → choosing.first_form (left_of f) ≡ f
      → command_said (words_read f s) (choosing.first_meaning Err (left_of f)) ≡ read_after (beginning_of f) s
  unfolding read_after left_of words_read
  told_arm e h q = choosing.letter-arm Err (beginning_of f) s refl (forms_after (beginning_of f)) (letter_of f) e h (ap (λ (g : List ℕ). words_of (taken g s)) (sym q)) refl

  -- or that is left where no letter is told
  pub told_last : mem (letter_after decimal_notation (beginning_of f) s) (letters (beginning_of f) (forms_after (beginning_of f))) ≡ false
      → choosing.is_one (last_of f) ≡ true → choosing.first_form (last_of f) ≡ f
      → command_said (words_read f s) (choosing.first_meaning Err (last_of f)) ≡ read_after (beginning_of f) s
  unfolding read_after others_of last_of words_read
  told_last o h q =
      let keys = letters (beginning_of f) (forms_after (beginning_of f)) in
      choosing.others-arm Err (beginning_of f) s refl (forms_after (beginning_of f)) keys (other-is keys (letter_after decimal_notation (beginning_of f) s) o) h (ap (λ (g : List ℕ). words_of (taken g s)) (sym q)) refl

  -- of a group: what its forms say
  pub told_group : letter_after decimal_notation (beginning_of f) s ≡ letter_of f → left_of f ≡ forms_after f → read_after f s ≡ read_after (beginning_of f) s
  unfolding read_after left_of
  told_group e h =
      choosing.by-letter Err (beginning_of f) s refl (forms_after (beginning_of f)) (letter_of f) e
      (ap (λ (productions : List (Production (Result Command Refusal))). parse Err productions s) (sym h))

  pub told_none : mem (letter_after decimal_notation f s) (letters f (forms_after f)) ≡ false → others_of f (forms_after f) ≡ [] → read_after f s ≡ Err NotInForm
  unfolding read_after others_of parse
  told_none o h =
      let keys = letters f (forms_after f) in
      sym (choosing.by-others Err f s refl (forms_after f) keys (other-is keys (letter_after decimal_notation f s) o)
      (ap (λ (productions : List (Production (Result Command Refusal))). parse Err productions s) (sym h)))

  -- a whole line, by its third letter
  pub told_line : length s ≤ line_limit → letter_after decimal_notation (bytes "..") s ≡ get_or f 2 0 → choosing.letter_leaves (bytes "..") (get_or f 2 0) grammar ≡ forms_after f
      → read_after f s ≡ command_read s
  unfolding read_after command_read
  told_line l e h =
      rw (le-ltb line_limit (length s) l)
      (choosing.by-letter Err (bytes "..") s refl grammar (get_or f 2 0) e
      (ap (λ (productions : List (Production (Result Command Refusal))). parse Err productions s) (sym h)))

module _ (s : List ℕ) where
  pub long_line : line_limit < length s → command_read s ≡ Err NotInForm
  unfolding command_read
  long_line h = rw (lt-ltb line_limit (length s) h)

  pub other_line : length s ≤ line_limit → mem (letter_after decimal_notation (bytes "..") s) (letters (bytes "..") grammar) ≡ false → others_of (bytes "..") grammar ≡ []
      → command_read s ≡ Err NotInForm
  unfolding command_read others_of parse
  other_line l o h =
      let keys = letters (bytes "..") grammar in
      rw (le-ltb line_limit (length s) l)
      (sym (choosing.by-others Err (bytes "..") s refl grammar keys (other-is keys (letter_after decimal_notation (bytes "..") s) o)
      (ap (λ (productions : List (Production (Result Command Refusal))). parse Err productions s) (sym h))))

  -- of the exchanged text
  added_by : (letter : ℕ) → length s ≤ line_limit → letter_after decimal_notation (bytes "..") s ≡ letter
      → choosing.letter_leaves (bytes "..") letter grammar ≡ choosing.letter_leaves (bytes "..") letter (map add_form shapes) → line_adds (line_read s) ≡ command_read s
  unfolding command_read
  added_by letter l e h =
      rw (le-ltb line_limit (length s) l)
      (choosing.by-letter Err (bytes "..") s refl grammar letter e
      (added-kept s l refl letter e refl ∙ ap (λ (productions : List (Production (Result Command Refusal))). parse Err productions s) (sym h)))

  pub added_edit : length s ≤ line_limit → letter_after decimal_notation (bytes "..") s ≡ 105 → line_adds (line_read s) ≡ command_read s
  unfolding computed
  added_edit l e = added_by 105 l e refl

  pub added_constraint : length s ≤ line_limit → letter_after decimal_notation (bytes "..") s ≡ 102 → line_adds (line_read s) ≡ command_read s
  unfolding computed
  added_constraint l e = added_by 102 l e refl

pub ruleset told_arms = (told_arm, told_last, told_group, told_none, ne_eqb)

pub ruleset told_lines = (told_line, long_line, other_line, added_edit, added_constraint, ne_eqb)

module _ (f s : List ℕ) (e : letter_after decimal_notation (bytes "lent=# ") s ≡ get_or f 7 0) (q : choosing.first_form (lent_left f) ≡ f) where
  words-first : words_read f s ≡ words_of (taken (choosing.first_form (lent_left f)) s)
  unfolding words_read
  words-first = ap (λ (g : List ℕ). words_of (taken g s)) (sym q)

  pub lent_first : is_first (lent_left f) ≡ true → words_read f s ≢ Err NotInForm → command_said (words_read f s) (choosing.first_meaning Err (lent_left f)) ≡ read_after (bytes "lent=# ") s
  unfolding read_after lent_left
  lent_first h n =
      choosing.by-letter Err (bytes "lent=# ") s refl (forms_after (bytes "lent=# ")) (get_or f 7 0) e
      (first_of (lent_left f) s h words-first n refl)

  pub lent_second : is_first (lent_left f) ≡ true → drop 1 (lent_left f) ≡ choosing.letter_leaves (bytes "lent=# ") (get_or f 7 0) (map lend_form shapes)
      → words_read f s ≡ Err NotInForm → lent_line_read s ≡ read_after (bytes "lent=# ") s
  unfolding read_after lent_left
  lent_second h d n =
      choosing.by-letter Err (bytes "lent=# ") s refl (forms_after (bytes "lent=# ")) (get_or f 7 0) e
      (others-of (lent_left f) s h words-first n
      (lent-kept s refl (get_or f 7 0) e refl ∙ ap (λ (productions : List (Production (Result Command Refusal))). parse Err productions s) (sym d)))

-- by what is read in a form: its words, or its number
abbrev ByNumber : List (Production (Result Command Refusal)) → Type 0
ByNumber productions = choosing.first_meaning Err productions ≡ (λ n. choosing.first_meaning Err productions (λ k. n 0))

module _ {f : List ℕ} (s : List ℕ) {w : Result (List ℕ) Refusal} (q : w ≡ words_read f s) where
  pub by_letter : letter_after decimal_notation (beginning_of f) s ≡ letter_of f → choosing.is_one (left_of f) ≡ true → choosing.first_form (left_of f) ≡ f
      → command_said w (choosing.first_meaning Err (left_of f)) ≡ read_after (beginning_of f) s
  by_letter e h g = rw q (told_arm f s e h g)

  pub by_last : {x : ℕ} → x ≡ letter_after decimal_notation (beginning_of f) s → Others (letters (beginning_of f) (forms_after (beginning_of f))) x
      → choosing.is_one (last_of f) ≡ true → choosing.first_form (last_of f) ≡ f → command_said w (choosing.first_meaning Err (last_of f)) ≡ read_after (beginning_of f) s
  unfolding read_after others_of last_of words_read
  by_last e o h g =
      choosing.others-arm Err (beginning_of f) s e (forms_after (beginning_of f)) (letters (beginning_of f) (forms_after (beginning_of f))) o h
      (q ∙ ap (λ (g : List ℕ). words_of (taken g s)) (sym g)) refl

  pub lent_by_first : letter_after decimal_notation (bytes "lent=# ") s ≡ get_or f 7 0 → choosing.first_form (lent_left f) ≡ f → is_first (lent_left f) ≡ true → w ≢ Err NotInForm
      → command_said w (choosing.first_meaning Err (lent_left f)) ≡ read_after (bytes "lent=# ") s
  lent_by_first e g h n = rw q (lent_first f s e g h (λ z. n (q ∙ z)))

module _ {f : List ℕ} (s : List ℕ) {v : Result ℕ Refusal} (q : v ≡ number_read f s) where
  pub number_by_letter : letter_after decimal_notation (beginning_of f) s ≡ letter_of f → choosing.is_one (left_of f) ≡ true → choosing.first_form (left_of f) ≡ f → ByNumber (left_of f)
      → by_number v (choosing.first_meaning Err (left_of f)) ≡ read_after (beginning_of f) s
  unfolding number_read
  number_by_letter e h g m = rw q (by-number-said (words_read f s) (choosing.first_meaning Err (left_of f)) m ∙ told_arm f s e h g)

  pub number_by_last : {x : ℕ} → x ≡ letter_after decimal_notation (beginning_of f) s → Others (letters (beginning_of f) (forms_after (beginning_of f))) x
      → choosing.is_one (last_of f) ≡ true → choosing.first_form (last_of f) ≡ f → ByNumber (last_of f)
      → by_number v (choosing.first_meaning Err (last_of f)) ≡ read_after (beginning_of f) s
  unfolding number_read
  number_by_last e o h g m = rw q (by-number-said (words_read f s) (choosing.first_meaning Err (last_of f)) m ∙ by_last s refl e o h g)

-- letters after a record's number
module _ (s : List ℕ) {number : ℕ} (p : number ≡ 5 + numeral_size (drop 5 s)) {x : ℕ} where
  pub lent-letter : x ≡ get_or s (number + 1) 0 → x ≡ letter_after decimal_notation (bytes "lent=# ") s
  unfolding bytes all is_mark spelling_in number_spelling
  lent-letter e = e ∙ ap (λ (k : ℕ). get_or s k 0) (sym (ends-number decimal_notation (bytes "lent=") 35 (bytes " ") 0 s refl refl p ∙ ends-run decimal_notation (bytes " ") number s refl))

  pub rows-letter : x ≡ get_or s (number + 6) 0 → x ≡ letter_after decimal_notation (bytes "lent=# rows=") s
  unfolding bytes all is_mark spelling_in number_spelling
  rows-letter e = e ∙ ap (λ (k : ℕ). get_or s k 0) (sym (ends-number decimal_notation (bytes "lent=") 35 (bytes " rows=") 0 s refl refl p ∙ ends-run decimal_notation (bytes " rows=") number s refl))

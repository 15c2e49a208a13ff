-- What a reader may count on: no line is taken by two forms, and a line that a form takes has its meaning. Then the line of each call, for any
-- numbers, and of two other commands. Assumes nothing.
use mathlib.Core.Path.{◌≡◌, refl, ap, sym, ◌∙◌}
use mathlib.Core.Bool.{true, false, cond, ◌&&◌}
use mathlib.Core.Logic.{inl, inr}
use mathlib.Core.List.{List, [], ◌∷◌, ◌++◌, map}
use mathlib.Core.Option.{Option, none, some}
use Prim.Native.Nat.{ℕ, ◌≤◌, ◌<◌}
use native.Mathlib.Omega.{arith}
use borrow.Author.Tests.{lt-ltb, le-ltb, ltb-true, ltb-false}
use lib.Dec.{ltb}
use lib.IntN.{pos, neg_ℤ}
use lib.ListN.{length, get_or}
use Rattle.lists.specs.Lists.{all, any, Has}
use Rattle.lists.proofs.Lists.{by, and_l, and_r, none-some}
use Rattle.lists.proofs.Logic.{all-has, has-map}
use Rattle.text_forms.specs.decimal.Decimal.{decimal}
use Rattle.text_forms.specs.Spelling.{bytes, starts_with, number_spelling, word_spelling, answer_words, rule_words, field_words, decimal_notation}
use Rattle.text_forms.specs.Form.{is_mark, words_in, spelling_in, fill_in, fill, taken}
use Rattle.text_forms.proofs.Lawful.{decimal-lawful}
use Rattle.text_forms.proofs.Forms.{differ, slots, spelled, spelled-all, separate, taken-fill, room, fill-room}
use Rattle.std.specs.Prelude.{Result, Ok, Err}
use Rattle.refusals.specs.declared.Refusal.{Refusal}
use Rattle.refusals.specs.declared.Refusal.TheVariants.{NotInForm, OutOfRange}
use Rattle.text_lines.specs.declared.Line.{Line}
use Rattle.text_lines.specs.declared.Line.TheVariants.{Edit, Constraint}
use Rattle.text_lines.specs.Line.{Shape, edit_shape, edit_form, constraint_form, edit_line, constraint_line, shapes, fits_word, line_limit, line_read_in, line_read}
use Rattle.text_lines.specs.Row.{is_edit_row, is_constraint_row}
use Rattle.text_lines.proofs.RoundTrip.{all-small, edit-line-read, constraint-line-read}
use Rattle.log_forms.specs.productions.Productions.{Production, ◌means◌, parse, Unambiguous}
use Rattle.log_forms.proofs.productions.Unambiguous.{tell_apart, apart, apart-unambiguous, parse-has, parse-by}
use Rattle.log_commands.specs.Grammar.{turn_forward, turn_back, command_forms, edit_cells_of, constraint_cells_of, adding, add_form, lend_form, grammar, command_read}
use Rattle.log_commands.specs.Groups.{line_adds}
use Rattle.log_commands.specs.declared.Lend.TheVariants.{EditRow}
use Rattle.log_commands.specs.declared.Call.TheVariants.{AddEdit, AddConstraint, Merge, Hide, Show, Turn, Adopt}
use Rattle.log_commands.specs.declared.Vote.TheVariants.{Winner, Tally, Why}
use Rattle.log_commands.specs.declared.Command.{Command}
use Rattle.log_commands.specs.declared.Command.TheVariants.{Lend, Call, Vote}
use Rattle.log_commands.proofs.Exchanged.{line-added}

grammar-apart : apart grammar ≡ true
unfolding command_forms grammar shapes edit_form constraint_form tell_apart apart all any differ bytes starts_with is_mark words_in spelling_in number_spelling word_spelling answer_words rule_words field_words decimal_notation
grammar-apart = refl

pub unambiguous : Unambiguous grammar
unambiguous = apart-unambiguous grammar grammar-apart

-- a line that a form takes has its meaning
pub line-meant : (production : Production (Result Command Refusal)) → Has production grammar → (s ns : List ℕ) → length s ≤ line_limit → taken production.form s ≡ some ns
    → command_read s ≡ cond (all fits_word ns) (production.meaning (λ k. get_or ns k 0)) (Err OutOfRange)
unfolding command_read
line-meant production m s ns h e = rw (le-ltb line_limit (length s) h) (parse-has Err production grammar s ns grammar-apart m e)

-- every form reads back what it gives, and no line with numbers of 32 bits is too long
grammar-fine : all (λ p. separate decimal_notation p.form && ltb (room p.form) 102) grammar ≡ true
unfolding command_forms grammar shapes edit_form constraint_form all separate room bytes is_mark words_in spelling_in number_spelling word_spelling decimal_notation
grammar-fine = refl

-- the line of a form with these numbers
pub line_read_lem : (production : Production (Result Command Refusal)) → Has production grammar → (ns : List ℕ) → length ns ≡ slots production.form
    → spelled decimal_notation production.form ns ≡ true → all fits_word ns ≡ true → command_read (fill production.form ns) ≡ production.meaning (λ k. get_or ns k 0)
line_read_lem production m ns l k h =
    let f = production.form in
    let fine : (separate decimal_notation f && ltb (room f) 102) ≡ true = all-has (λ p. separate decimal_notation p.form && ltb (room p.form) 102) grammar grammar-fine production m in
    let near : room f < 102 = ltb-true (room f) 102 (and_r (separate decimal_notation f) (ltb (room f) 102) fine) in
    line-meant production m (fill f ns) ns (omega (arith, fill-room decimal-lawful f ns (all-small ns h))) (taken-fill decimal-lawful f ns (and_l (separate decimal_notation f) (ltb (room f) 102) fine) k l)
    ∙ rw h

-- the number of forms
grammar-size : length grammar ≡ 37
unfolding command_forms grammar shapes
grammar-size = refl

-- the production of a form
unfoldable formed : List (Production (Result Command Refusal)) → List ℕ → Option (Production (Result Command Refusal))
formed [] f = none
formed (production ∷ rest) f = cond (starts_with production.form f) (some production) (formed rest f)

formed-has : (productions : List (Production (Result Command Refusal))) (production : Production (Result Command Refusal)) → formed productions production.form ≡ some production → Has production productions
unfolding formed
formed-has [] production = λ e. none-some refl e
formed-has (first ∷ rest) production =
    by (starts_with first.form production.form)
    (λ (q : starts_with first.form production.form ≡ true). rw q (λ e. let z : first ≡ production = cc in inl (sym z)))
    (λ (q : starts_with first.form production.form ≡ false). rw q (λ e. inr (formed-has rest production e)))

one-fits : (n : ℕ) → n < 4294967296 → all fits_word (n ∷ []) ≡ true
unfolding all
one-fits n h = rw (lt-ltb n 4294967296 h)

two-fit : (m n : ℕ) → m < 4294967296 → n < 4294967296 → all fits_word (m ∷ n ∷ []) ≡ true
unfolding all
two-fit m n a b = rw (lt-ltb m 4294967296 a, lt-ltb n 4294967296 b)

-- a form with one number
number_read : (production : Production (Result Command Refusal)) → formed grammar production.form ≡ some production → (n : ℕ) → 1 ≡ slots production.form → spelled decimal_notation production.form (n ∷ []) ≡ true
    → n < 4294967296 → command_read (fill production.form (n ∷ [])) ≡ production.meaning (λ k. get_or (n ∷ []) k 0)
number_read production e n l k h = line_read_lem production (formed-has grammar production e) (n ∷ []) l k (one-fits n h)

module _ (n : ℕ) (h : n < 4294967296) where
  pub merge-line : command_read (bytes "do=merge lent=" ++ (decimal n ++ bytes "\n")) ≡ Ok (Call (Merge n))
  unfolding command_forms grammar formed starts_with bytes is_mark spelling_in number_spelling fill_in slots spelled
  merge-line = number_read ("do=merge lent=#" means (λ n. Ok (Call (Merge (n 0))))) refl n refl refl h

  pub hide-line : command_read (bytes "do=hide edit=" ++ (decimal n ++ bytes "\n")) ≡ Ok (Call (Hide n))
  unfolding command_forms grammar formed starts_with bytes is_mark spelling_in number_spelling fill_in slots spelled
  hide-line = number_read ("do=hide edit=#" means (λ n. Ok (Call (Hide (n 0))))) refl n refl refl h

  pub show-line : command_read (bytes "do=show edit=" ++ (decimal n ++ bytes "\n")) ≡ Ok (Call (Show n))
  unfolding command_forms grammar formed starts_with bytes is_mark spelling_in number_spelling fill_in slots spelled
  show-line = number_read ("do=show edit=#" means (λ n. Ok (Call (Show (n 0))))) refl n refl refl h

  pub adopt-line : command_read (bytes "do=adopt edit=" ++ (decimal n ++ bytes "\n")) ≡ Ok (Call (Adopt n))
  unfolding command_forms grammar formed starts_with bytes is_mark spelling_in number_spelling fill_in slots spelled
  adopt-line = number_read ("do=adopt edit=#" means (λ n. Ok (Call (Adopt (n 0))))) refl n refl refl h

  pub winner-line : command_read (bytes "do=winner edit=" ++ (decimal n ++ bytes "\n")) ≡ Ok (Vote (Winner n))
  unfolding command_forms grammar formed starts_with bytes is_mark spelling_in number_spelling fill_in slots spelled
  winner-line = number_read ("do=winner edit=#" means (λ n. Ok (Vote (Winner (n 0))))) refl n refl refl h

  pub tally-line : command_read (bytes "do=tally edit=" ++ (decimal n ++ bytes "\n")) ≡ Ok (Vote (Tally n))
  unfolding command_forms grammar formed starts_with bytes is_mark spelling_in number_spelling fill_in slots spelled
  tally-line = number_read ("do=tally edit=#" means (λ n. Ok (Vote (Tally (n 0))))) refl n refl refl h

pub why-line : (m n : ℕ) → m < 4294967296 → n < 4294967296 → command_read (bytes "do=why edit=" ++ (decimal m ++ (bytes " lent=" ++ (decimal n ++ bytes "\n")))) ≡ Ok (Vote (Why m n))
unfolding command_forms grammar formed starts_with bytes is_mark spelling_in number_spelling fill_in slots spelled
why-line m n a b =
    let production = "do=why edit=# lent=#" means (λ n. Ok (Vote (Why (n 0) (n 1)))) in
    line_read_lem production (formed-has grammar production refl) (m ∷ n ∷ []) refl refl (two-fit m n a b)

-- the number of pages of a turn is any i32
pub turn-line : (n : ℕ) → n < 2147483648 → command_read (bytes "do=turn pages=" ++ (decimal n ++ bytes "\n")) ≡ Ok (Call (Turn (pos n)))
unfolding command_forms grammar formed starts_with turn_forward bytes is_mark spelling_in number_spelling fill_in slots spelled
turn-line n h = number_read ("do=turn pages=#" means (λ n. turn_forward (n 0))) refl n refl refl (omega arith) ∙ rw (lt-ltb n 2147483648 h)

pub turn-back-line : (n : ℕ) → n ≤ 2147483648 → command_read (bytes "do=turn pages=-" ++ (decimal n ++ bytes "\n")) ≡ Ok (Call (Turn (neg_ℤ (pos n))))
unfolding command_forms grammar formed starts_with turn_back bytes is_mark spelling_in number_spelling fill_in slots spelled
turn-back-line n h =
    let l : n < 2147483649 = omega arith in
    number_read ("do=turn pages=-#" means (λ n. turn_back (n 0))) refl n refl refl (omega arith) ∙ rw (lt-ltb n 2147483649 l)

-- the forms of the exchanged text are among them twice
has_left : {A : Type 0} (x : A) (s t : List A) → Has x s → Has x (s ++ t)
has_left x [] t m = absurd m
has_left x (y ∷ s) t (inl e) = inl e
has_left x (y ∷ s) t (inr m) = inr (has_left x s t m)

has_right : {A : Type 0} (x : A) (s t : List A) → Has x t → Has x (s ++ t)
has_right x [] t m = m
has_right x (y ∷ s) t m = inr (has_right x s t m)

added-has : (production : Production (Result Command Refusal)) → Has production (map add_form shapes) → Has production grammar
unfolding grammar
added-has production m = has_right production command_forms (map add_form shapes ++ map lend_form shapes) (has_left production (map add_form shapes) (map lend_form shapes) m)

lent-has : (production : Production (Result Command Refusal)) → Has production (map lend_form shapes) → Has production grammar
unfolding grammar
lent-has production m = has_right production command_forms (map add_form shapes ++ map lend_form shapes) (has_right production (map add_form shapes) (map lend_form shapes) m)

pub added-form : (shape : Shape) → Has shape shapes → Has (add_form shape) grammar
added-form shape m = added-has (add_form shape) (has-map add_form shape shapes m)

pub lent-form : (shape : Shape) → Has shape shapes → Has (lend_form shape) grammar
lent-form shape m = lent-has (lend_form shape) (has-map lend_form shape shapes m)

read-within : (s : List ℕ) {line : Line} → line_read s ≡ Ok line → length s ≤ line_limit
unfolding line_read_in
read-within s {line} =
    by (ltb line_limit (length s))
    (λ (e : ltb line_limit (length s) ≡ true). rw e (λ z. let y : ⊥ = cc in absurd y))
    (λ (e : ltb line_limit (length s) ≡ false) z. ltb-false line_limit (length s) e)

-- a line of the exchanged text adds the row that it says
pub text-line : (s : List ℕ) (line : Line) → line_read s ≡ Ok line → command_read s ≡ Ok (adding line)
text-line s line h =
    let near = read-within s h in
    let q : Ok (adding line) ≡ parse Err (map add_form shapes) s = ap line_adds (sym h) ∙ line-added s near refl in
    parse-by Err (map add_form shapes) s
    (λ e. let z : Ok (adding line) ≡ Err NotInForm = q ∙ e in let y : ⊥ = cc in absurd y)
    (λ production ns m t e. line-meant production (added-has production m) s ns near t ∙ (sym e ∙ sym q))

pub edit-line-adds : (row : List ℕ) → is_edit_row row ≡ true → command_read (edit_line row) ≡ Ok (Call (AddEdit (edit_cells_of row)))
edit-line-adds row h = text-line (edit_line row) (Edit row) (edit-line-read row h)

pub constraint-line-adds : (row : List ℕ) → is_constraint_row row ≡ true → command_read (constraint_line row) ≡ Ok (Call (AddConstraint (constraint_cells_of row)))
constraint-line-adds row h = text-line (constraint_line row) (Constraint row) (constraint-line-read row h)

three-fit : (m n p : ℕ) → m < 4294967296 → n < 4294967296 → p < 4294967296 → all fits_word (m ∷ n ∷ p ∷ []) ≡ true
unfolding all
three-fit m n p a b c = rw (lt-ltb m 4294967296 a, lt-ltb n 4294967296 b, lt-ltb p 4294967296 c)

insert-known : Has (edit_shape 0) shapes
unfolding shapes
insert-known = inl refl

pub lent-insert-line : (lent name place : ℕ) → lent < 4294967296 → name < 4294967296 → place < 4294967296
    → command_read (fill (bytes "lent=# edit=@ do=insert chip=#\n") (lent ∷ name ∷ place ∷ []))
    ≡ Ok (Lend (EditRow lent (record { name = name; kind = 0; place = place; field = 0; value = 0 })))
unfolding edit_form bytes is_mark slots all
lent-insert-line lent name place a b c =
    line_read_lem (lend_form (edit_shape 0)) (lent-form (edit_shape 0) insert-known) (lent ∷ name ∷ place ∷ []) refl
    (spelled-all (bytes "lent=# " ++ edit_form 0) (lent ∷ name ∷ place ∷ []) refl) (three-fit lent name place a b c)

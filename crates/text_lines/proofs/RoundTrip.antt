-- The round trip of lines in a lawful notation: a row's line is read back as that row, a line that is read as a row is that row's line, and a row's
-- line is one line of at most 101 bytes. Then the same in decimal. Assumes nothing.
use Prim.Native.Nat.{ℕ, zero, suc, ◌+◌, ◌≤◌, ◌<◌}
use mathlib.Core.Path.{◌≡◌, refl, sym, ◌∙◌}
use mathlib.Core.Bool.{Bool, true, false, ◌&&◌}
use mathlib.Core.Logic.{◌≢◌}
use mathlib.Core.List.{List, [], ◌∷◌, ◌++◌}
use mathlib.Core.Option.{Option, none, some}
use native.Mathlib.Omega.{arith}
use borrow.Author.Tests.{ltb-true, le-ltb, eqb-true}
use lib.Dec.{ltb, eqb}
use lib.ListN.{length, get_or, drop}
use lib.Seq.{get_or-drop}
use Rattle.lists.specs.Lists.{all}
use Rattle.lists.proofs.Lists.{by, clash, and_l, and_r}
use Rattle.std.proofs.lemmas.List.{get_or_past}
use Rattle.text_forms.specs.Spelling.{bytes, number_spelling, word_spelling, rule_words, Notation, decimal_notation}
use Rattle.text_forms.specs.Form.{is_mark, words_in, spelling_in, fill_in, taken_in}
use Rattle.text_forms.proofs.Lawful.{LawfulNotation, decimal-lawful}
use Rattle.text_forms.proofs.Forms.{slots, spelled, separate, differ, taken-fill, fill-taken, taken-other, room, AllSmall, fill-room, one_line, Ended, fill-ended}
use Rattle.text_lines.specs.Line.{edit_form, constraint_form, edit_numbers, constraint_numbers, edit_line_in, constraint_line_in, Shape, edit_shape, constraint_shape, shapes, fits_word, said, read_as, read_by, line_read_in, edit_line, constraint_line, line_read, line_limit}
use Rattle.text_lines.specs.Row.{body_in_form, is_edit_row_in, is_constraint_row_in, is_edit_row, is_constraint_row}
use Rattle.text_lines.specs.Lines.{lines}
use Rattle.std.specs.Prelude.{Result, Ok, Err, IfOk}
use Rattle.refusals.specs.declared.Refusal.{Refusal}
use Rattle.refusals.specs.declared.Refusal.TheVariants.{NotInForm, OutOfRange}
use Rattle.refusals.specs.Numbers.{number_of}
use Rattle.text_lines.specs.declared.Line.{Line}
use Rattle.text_lines.specs.declared.Line.TheVariants.{Edit, Constraint}
use Rattle.text_lines.proofs.Says.{edit-slots, constraint-slots, cell-fits, SameNumbers}
use Rattle.text_lines.proofs.Ends.{line-of-ended}

-- what two lists of the same numbers give, where a missing one is 0
same-rest : (ms ns : List ℕ) → SameNumbers ms ns → SameNumbers (drop 1 ms) (drop 1 ns)
same-rest ms ns a k = get_or-drop 1 ms k 0 ∙ a (1 + k) ∙ sym (get_or-drop 1 ns k 0)

fill-same : (N : Notation) (f ms ns : List ℕ) → SameNumbers ms ns → fill_in N f ms ≡ fill_in N f ns
unfolding fill_in
fill-same N [] ms ns a = refl
fill-same N (c ∷ f) ms ns a =
    by (is_mark c)
    (λ (m : is_mark c ≡ true). rw (m, a 0, fill-same N f (drop 1 ms) (drop 1 ns) (same-rest ms ns a)))
    (λ (m : is_mark c ≡ false). rw (m, fill-same N f ms ns a))

first-four : (ns : List ℕ) → length ns ≤ 4 → SameNumbers (get_or ns 0 0 ∷ get_or ns 1 0 ∷ get_or ns 2 0 ∷ get_or ns 3 0 ∷ []) ns
first-four ns h zero = refl
first-four ns h (suc zero) = refl
first-four ns h (suc (suc zero)) = refl
first-four ns h (suc (suc (suc zero))) = refl
first-four ns h (suc (suc (suc (suc k)))) = sym (get_or_past ns (suc (suc (suc (suc k)))) 0 (omega arith))

first-three : (ns : List ℕ) → length ns ≤ 3 → SameNumbers (get_or ns 0 0 ∷ get_or ns 1 0 ∷ get_or ns 2 0 ∷ []) ns
first-three ns h zero = refl
first-three ns h (suc zero) = refl
first-three ns h (suc (suc zero)) = refl
first-three ns h (suc (suc (suc k))) = sym (get_or_past ns (suc (suc (suc k))) 0 (omega arith))

-- numbers that fit 32 bits
pub all-small : (ns : List ℕ) → all fits_word ns ≡ true → AllSmall ns
unfolding all
all-small [] h = tt
all-small (n ∷ ns) h = (ltb-true n 4294967296 (and_l (fits_word n) (all fits_word ns) h), all-small ns (and_r (fits_word n) (all fits_word ns) h))

fits-two : (a b : ℕ) → fits_word a ≡ true → fits_word b ≡ true → all fits_word (a ∷ b ∷ []) ≡ true
unfolding all
fits-two a b p q = rw (p, q)

fits-four : (a b c d : ℕ) → fits_word a ≡ true → fits_word b ≡ true → fits_word c ≡ true → fits_word d ≡ true → all fits_word (a ∷ b ∷ c ∷ d ∷ []) ≡ true
unfolding all
fits-four a b c d p q r s = rw (p, q, r, s)

-- The forms: each of a known kind is one line, and none takes more than 101 bytes.
edit-one_line : (kind : ℕ) → kind < 3 → one_line (edit_form kind) ≡ true
unfolding edit_form bytes one_line
edit-one_line zero h = refl
edit-one_line (suc zero) h = refl
edit-one_line (suc (suc zero)) h = refl
edit-one_line (suc (suc (suc kind))) h = absurd (omega arith)

constraint-one_line : one_line constraint_form ≡ true
unfolding constraint_form bytes one_line
constraint-one_line = refl

edit-room : (kind : ℕ) → room (edit_form kind) ≤ line_limit
unfolding edit_form bytes room is_mark
edit-room zero = omega arith
edit-room (suc zero) = omega arith
edit-room (suc (suc zero)) = omega arith
edit-room (suc (suc (suc kind))) = omega arith

constraint-room : room constraint_form ≤ line_limit
unfolding constraint_form bytes room is_mark
constraint-room = omega arith

-- how many numbers they take
slot_count : ℕ → ℕ
slot_count zero = 2
slot_count (suc zero) = 4
slot_count (suc (suc zero)) = 2
slot_count (suc (suc (suc kind))) = 0

edit-slot-count : (kind : ℕ) → slots (edit_form kind) ≡ slot_count kind
unfolding edit_form bytes slots is_mark slot_count
edit-slot-count zero = refl
edit-slot-count (suc zero) = refl
edit-slot-count (suc (suc zero)) = refl
edit-slot-count (suc (suc (suc kind))) = refl

constraint-slot-count : slots constraint_form ≡ 3
unfolding constraint_form bytes slots is_mark
constraint-slot-count = refl

-- a row that has a line of its own
pub record EditInForm (N : Notation) (row : List ℕ) : Type 0 where
  pub wide : eqb (length row) 5 ≡ true
  pub words : all fits_word row ≡ true
  pub name : N.names.spells (get_or row 0 0) ≡ true
  pub body : body_in_form N (get_or row 1 0) (get_or row 3 0) (get_or row 4 0) ≡ true

pub record ConstraintInForm (N : Notation) (row : List ℕ) : Type 0 where
  pub wide : eqb (length row) 3 ≡ true
  pub words : all fits_word row ≡ true
  pub left : N.names.spells (get_or row 0 0) ≡ true
  pub right : N.names.spells (get_or row 2 0) ≡ true
  pub rule : ltb (get_or row 1 0) (length rule_words) ≡ true

module _ (N : Notation) where
  pub edit-in-form-parts : (row : List ℕ) → is_edit_row_in N row ≡ true → EditInForm N row
  unfolding is_edit_row_in
  edit-in-form-parts row h =
      let h1 = and_r (eqb (length row) 5) _ h in
      let h2 = and_r (all fits_word row) _ h1 in
      record { wide = and_l (eqb (length row) 5) _ h; words = and_l (all fits_word row) _ h1; name = and_l (N.names.spells (get_or row 0 0)) _ h2; body = and_r (N.names.spells (get_or row 0 0)) _ h2 }

  constraint-in-form-parts : (row : List ℕ) → is_constraint_row_in N row ≡ true → ConstraintInForm N row
  unfolding is_constraint_row_in
  constraint-in-form-parts row h =
      let h1 = and_r (eqb (length row) 3) _ h in
      let h2 = and_r (all fits_word row) _ h1 in
      let h3 = and_r (N.names.spells (get_or row 0 0)) _ h2 in
      record {
        wide = and_l (eqb (length row) 3) _ h;
        words = and_l (all fits_word row) _ h1;
        left = and_l (N.names.spells (get_or row 0 0)) _ h2;
        right = and_l (N.names.spells (get_or row 2 0)) _ h3;
        rule = and_r (N.names.spells (get_or row 2 0)) _ h3;
      }

  kind-known : (kind field value : ℕ) → body_in_form N kind field value ≡ true → kind < 3
  unfolding body_in_form
  kind-known zero field value h = omega arith
  kind-known (suc zero) field value h = omega arith
  kind-known (suc (suc zero)) field value h = omega arith
  kind-known (suc (suc (suc kind))) field value h = clash h refl

  edit-kind : (row : List ℕ) → is_edit_row_in N row ≡ true → get_or row 1 0 < 3
  edit-kind row h = kind-known (get_or row 1 0) (get_or row 3 0) (get_or row 4 0) (edit-in-form-parts row h).body

  -- the numbers that the forms spell
  two-spelled : (kind n p : ℕ) → kind < 3 → kind ≢ 1 → N.names.spells n ≡ true → spelled N (edit_form kind) (n ∷ p ∷ []) ≡ true
  unfolding edit_form bytes spelled is_mark spelling_in number_spelling
  two-spelled zero n p h e a = rw a
  two-spelled (suc zero) n p h e a = absurd (e refl)
  two-spelled (suc (suc zero)) n p h e a = rw a
  two-spelled (suc (suc (suc kind))) n p h e a = absurd (omega arith)

  set-spelled : (n p f v : ℕ) → spelled N (edit_form 1) (n ∷ p ∷ f ∷ v ∷ []) ≡ (N.names.spells n && (ltb f (length N.fields) && true))
  unfolding edit_form bytes spelled is_mark spelling_in words_in word_spelling number_spelling
  set-spelled n p f v = refl

  rule-spelled : (a r b : ℕ) → spelled N constraint_form (a ∷ r ∷ b ∷ []) ≡ (N.names.spells a && (ltb r (length rule_words) && (N.names.spells b && true)))
  unfolding constraint_form bytes spelled is_mark spelling_in words_in word_spelling
  rule-spelled a r b = refl

-- rows by their cells
five : {P : Type 0} (row : List ℕ) → eqb (length row) 5 ≡ true → ((n k p f v : ℕ) → row ≡ n ∷ k ∷ p ∷ f ∷ v ∷ [] → P) → P
five [] h q = clash h refl
five (n ∷ []) h q = clash h refl
five (n ∷ k ∷ []) h q = clash h refl
five (n ∷ k ∷ p ∷ []) h q = clash h refl
five (n ∷ k ∷ p ∷ f ∷ []) h q = clash h refl
five (n ∷ k ∷ p ∷ f ∷ v ∷ []) h q = q n k p f v refl
five (n ∷ k ∷ p ∷ f ∷ v ∷ w ∷ row) h q = absurd (omega (arith, eqb-true (length (n ∷ k ∷ p ∷ f ∷ v ∷ w ∷ row)) 5 h))

three : {P : Type 0} (row : List ℕ) → eqb (length row) 3 ≡ true → ((a r b : ℕ) → row ≡ a ∷ r ∷ b ∷ [] → P) → P
three [] h q = clash h refl
three (a ∷ []) h q = clash h refl
three (a ∷ r ∷ []) h q = clash h refl
three (a ∷ r ∷ b ∷ []) h q = q a r b refl
three (a ∷ r ∷ b ∷ c ∷ row) h q = absurd (omega (arith, eqb-true (length (a ∷ r ∷ b ∷ c ∷ row)) 3 h))

-- two forms
abbrev others : Notation → List Shape → List ℕ → Bool
others N [] f = true
others N (h ∷ hs) f = differ N h.form f && others N hs f

module _ {N : Notation} (L : LawfulNotation N) where
  -- A row's line is one line of at most 101 bytes.
  edit-line-ended : (row : List ℕ) → get_or row 1 0 < 3 → Ended (edit_line_in N row)
  unfolding edit_line_in
  edit-line-ended row h = fill-ended L (edit_form (get_or row 1 0)) (edit_numbers row) (edit-one_line (get_or row 1 0) h)

  constraint-line-ended : (row : List ℕ) → Ended (constraint_line_in N row)
  unfolding constraint_line_in
  constraint-line-ended row = fill-ended L constraint_form (constraint_numbers row) constraint-one_line

  pub edit-line-first-in : (row rest : List ℕ) → is_edit_row_in N row ≡ true → lines (edit_line_in N row ++ rest) ≡ edit_line_in N row ∷ lines rest
  edit-line-first-in row rest h = line-of-ended (edit_line_in N row) rest (edit-line-ended row (edit-kind N row h))

  pub constraint-line-first-in : (row rest : List ℕ) → lines (constraint_line_in N row ++ rest) ≡ constraint_line_in N row ∷ lines rest
  constraint-line-first-in row rest = line-of-ended (constraint_line_in N row) rest (constraint-line-ended row)

  cell-small : (row : List ℕ) (k : ℕ) → all fits_word row ≡ true → get_or row k 0 < 4294967296
  cell-small row k h = ltb-true (get_or row k 0) 4294967296 (cell-fits row k h)

  edit-line-short : (row : List ℕ) → all fits_word row ≡ true → length (edit_line_in N row) ≤ line_limit
  unfolding edit_line_in
  edit-line-short row h =
      omega (arith, fill-room L (edit_form (get_or row 1 0)) (edit_numbers row) (cell-small row 0 h, (cell-small row 2 h, (cell-small row 3 h, (cell-small row 4 h, tt)))), edit-room (get_or row 1 0))

  constraint-line-short : (row : List ℕ) → all fits_word row ≡ true → length (constraint_line_in N row) ≤ line_limit
  unfolding constraint_line_in
  constraint-line-short row h = omega (arith, fill-room L constraint_form (constraint_numbers row) (cell-small row 0 h, (cell-small row 1 h, (cell-small row 2 h, tt))), constraint-room)

  -- What is written is read back.
  edit-separate : (kind : ℕ) → separate N (edit_form kind) ≡ true
  unfolding edit_form bytes separate is_mark spelling_in words_in word_spelling number_spelling
  edit-separate zero = rw L.space
  edit-separate (suc zero) = rw L.space
  edit-separate (suc (suc zero)) = rw L.space
  edit-separate (suc (suc (suc kind))) = refl

  constraint-separate : separate N constraint_form ≡ true
  unfolding constraint_form bytes separate is_mark spelling_in words_in word_spelling
  constraint-separate = rw (L.space, L.line_end)

  as-other : (h : Shape) (hs : List Shape) (s : List ℕ) → taken_in N h.form s ≡ none → read_by N (h ∷ hs) s ≡ read_by N hs s
  unfolding read_by read_as
  as-other h hs s e = rw e

  found : (hs : List Shape) (h : Shape) (rest : List Shape) (ns : List ℕ) → separate N h.form ≡ true → others N hs h.form ≡ true → spelled N h.form ns ≡ true
      → length ns ≡ slots h.form → all fits_word ns ≡ true → read_by N (hs ++ (h ∷ rest)) (fill_in N h.form ns) ≡ Ok (h.says ns)
  unfolding read_by read_as
  found [] h rest ns p q k l a = rw (taken-fill L h.form ns p k l, a)
  found (g ∷ hs) h rest ns p q k l a =
      as-other g (hs ++ (h ∷ rest)) (fill_in N h.form ns) (taken-other L g.form h.form ns p k (and_l _ (others N hs h.form) q))
      ∙ found hs h rest ns p (and_r (differ N g.form h.form) _ q) k l a

  read-kind : (kind : ℕ) → kind < 3 → (ns : List ℕ) → spelled N (edit_form kind) ns ≡ true → length ns ≡ slot_count kind → all fits_word ns ≡ true
      → read_by N shapes (fill_in N (edit_form kind) ns) ≡ Ok ((edit_shape kind).says ns)
  unfolding shapes edit_form bytes differ is_mark
  read-kind zero h ns k l a = found [] (edit_shape 0) (drop 1 shapes) ns (edit-separate 0) refl k (l ∙ sym (edit-slot-count 0)) a
  read-kind (suc zero) h ns k l a = found (edit_shape 0 ∷ []) (edit_shape 1) (drop 2 shapes) ns (edit-separate 1) refl k (l ∙ sym (edit-slot-count 1)) a
  read-kind (suc (suc zero)) h ns k l a = found (edit_shape 0 ∷ edit_shape 1 ∷ []) (edit_shape 2) (drop 3 shapes) ns (edit-separate 2) refl k (l ∙ sym (edit-slot-count 2)) a
  read-kind (suc (suc (suc kind))) h ns k l a = absurd (omega arith)

  read-rule : (ns : List ℕ) → spelled N constraint_form ns ≡ true → length ns ≡ 3 → all fits_word ns ≡ true → read_by N shapes (fill_in N constraint_form ns) ≡ Ok (constraint_shape.says ns)
  unfolding shapes edit_form constraint_form bytes differ is_mark
  read-rule ns k l a = found (edit_shape 0 ∷ edit_shape 1 ∷ edit_shape 2 ∷ []) constraint_shape [] ns constraint-separate refl k (l ∙ sym constraint-slot-count) a

  -- insert and remove say two numbers
  unset-read : (kind n p : ℕ) → kind < 3 → kind ≢ 1 → slot_count kind ≡ 2 → N.names.spells n ≡ true → fits_word n ≡ true → fits_word p ≡ true
      → read_by N shapes (fill_in N (edit_form kind) (n ∷ p ∷ 0 ∷ 0 ∷ [])) ≡ Ok (Edit (n ∷ kind ∷ p ∷ 0 ∷ 0 ∷ []))
  unset-read kind n p h e c a x y =
      rw (fill-same N (edit_form kind) (n ∷ p ∷ 0 ∷ 0 ∷ []) (n ∷ p ∷ []) (first-four (n ∷ p ∷ []) (omega arith)))
      (read-kind kind h (n ∷ p ∷ []) (two-spelled N kind n p h e a) (sym c) (fits-two n p x y))

  read-cells : (n k p f v : ℕ) → EditInForm N (n ∷ k ∷ p ∷ f ∷ v ∷ []) → read_by N shapes (edit_line_in N (n ∷ k ∷ p ∷ f ∷ v ∷ [])) ≡ Ok (Edit (n ∷ k ∷ p ∷ f ∷ v ∷ []))
  unfolding edit_line_in body_in_form slot_count
  read-cells n zero p f v t =
      let row = n ∷ 0 ∷ p ∷ f ∷ v ∷ [] in
      rw (eqb-true f 0 (and_l (eqb f 0) (eqb v 0) t.body), eqb-true v 0 (and_r (eqb f 0) (eqb v 0) t.body))
      (unset-read 0 n p (omega arith) (λ e. absurd (omega arith)) refl t.name (cell-fits row 0 t.words) (cell-fits row 2 t.words))
  read-cells n (suc zero) p f v t =
      let row = n ∷ 1 ∷ p ∷ f ∷ v ∷ [] in
      read-kind 1 (omega arith) (n ∷ p ∷ f ∷ v ∷ []) (set-spelled N n p f v ∙ rw (t.name, t.body)) refl
      (fits-four n p f v (cell-fits row 0 t.words) (cell-fits row 2 t.words) (cell-fits row 3 t.words) (cell-fits row 4 t.words))
  read-cells n (suc (suc zero)) p f v t =
      let row = n ∷ 2 ∷ p ∷ f ∷ v ∷ [] in
      rw (eqb-true f 0 (and_l (eqb f 0) (eqb v 0) t.body), eqb-true v 0 (and_r (eqb f 0) (eqb v 0) t.body))
      (unset-read 2 n p (omega arith) (λ e. absurd (omega arith)) refl t.name (cell-fits row 0 t.words) (cell-fits row 2 t.words))
  read-cells n (suc (suc (suc k))) p f v t = clash t.body refl

  read_short : (s : List ℕ) → length s ≤ line_limit → line_read_in N s ≡ read_by N shapes s
  unfolding line_read_in
  read_short s h = rw (le-ltb line_limit (length s) h)

  pub edit-line-read-in : (row : List ℕ) → is_edit_row_in N row ≡ true → line_read_in N (edit_line_in N row) ≡ Ok (Edit row)
  edit-line-read-in row h =
      let t = edit-in-form-parts N row h in
      read_short (edit_line_in N row) (edit-line-short row t.words) ∙ five row t.wide (λ n k p f v e. at-row n k p f v row e t)
    where
      at-row : (n k p f v : ℕ) (row : List ℕ) → row ≡ n ∷ k ∷ p ∷ f ∷ v ∷ [] → EditInForm N row → read_by N shapes (edit_line_in N row) ≡ Ok (Edit row)
      at-row n k p f v row e t = rw e (read-cells n k p f v (rw e at t))

  read-three : (a r b : ℕ) → ConstraintInForm N (a ∷ r ∷ b ∷ []) → read_by N shapes (constraint_line_in N (a ∷ r ∷ b ∷ [])) ≡ Ok (Constraint (a ∷ r ∷ b ∷ []))
  unfolding constraint_line_in
  read-three a r b t = read-rule (a ∷ r ∷ b ∷ []) (rule-spelled N a r b ∙ rw (t.left, t.rule, t.right)) refl t.words

  pub constraint-line-read-in : (row : List ℕ) → is_constraint_row_in N row ≡ true → line_read_in N (constraint_line_in N row) ≡ Ok (Constraint row)
  constraint-line-read-in row h =
      let t = constraint-in-form-parts N row h in
      read_short (constraint_line_in N row) (constraint-line-short row t.words) ∙ three row t.wide (λ a r b e. at-row a r b row e t)
    where
      at-row : (a r b : ℕ) (row : List ℕ) → row ≡ a ∷ r ∷ b ∷ [] → ConstraintInForm N row → read_by N shapes (constraint_line_in N row) ≡ Ok (Constraint row)
      at-row a r b row e t = rw e (read-three a r b (rw e at t))

-- What a line says gives the line.
module _ (N : Notation) where
  abbrev pub written_line_in : Line → List ℕ
  written_line_in (Edit row) = edit_line_in N row
  written_line_in (Constraint row) = constraint_line_in N row

  abbrev pub row_in_form_in : Line → Bool
  row_in_form_in (Edit row) = is_edit_row_in N row
  row_in_form_in (Constraint row) = is_constraint_row_in N row

  abbrev pub FaithfulIn : Result Line Refusal → List ℕ → Type 0
  FaithfulIn l s = IfOk l (λ line. (s ≡ written_line_in line) × (row_in_form_in line ≡ true))

-- What a line can say.
pub data Saying (l : Result Line Refusal) : Type 0 where
  fault-one : l ≡ Err NotInForm → Saying l
  fault-two : l ≡ Err OutOfRange → Saying l
  an-edit : (row : List ℕ) → l ≡ Ok (Edit row) → Saying l
  a-constraint : (row : List ℕ) → l ≡ Ok (Constraint row) → Saying l

saying-row : (line : Line) → Saying (Ok line)
saying-row (Edit row) = an-edit row refl
saying-row (Constraint row) = a-constraint row refl

-- the row that a form's numbers say has the form's text, and is in form
record SaysLine (N : Notation) (h : Shape) : Type 0 where
  pub text : (ns : List ℕ) → length ns ≡ slots h.form → written_line_in N (h.says ns) ≡ fill_in N h.form ns
  pub row : (ns : List ℕ) → length ns ≡ slots h.form → all fits_word ns ≡ true → spelled N h.form ns ≡ true → row_in_form_in N (h.says ns) ≡ true

abbrev Each : Notation → List Shape → Type 0
Each N [] = Unit
Each N (h ∷ hs) = SaysLine N h × Each N hs

module _ (N : Notation) where
  name-spelled : (kind : ℕ) → kind < 3 → (ns : List ℕ) → spelled N (edit_form kind) ns ≡ true → N.names.spells (get_or ns 0 0) ≡ true
  unfolding edit_form bytes spelled is_mark spelling_in
  name-spelled zero h ns k = and_l (N.names.spells (get_or ns 0 0)) _ k
  name-spelled (suc zero) h ns k = and_l (N.names.spells (get_or ns 0 0)) _ k
  name-spelled (suc (suc zero)) h ns k = and_l (N.names.spells (get_or ns 0 0)) _ k
  name-spelled (suc (suc (suc kind))) h ns k = absurd (omega arith)

  four-numbers : (ns : List ℕ) → length ns ≡ 4 → ns ≡ get_or ns 0 0 ∷ get_or ns 1 0 ∷ get_or ns 2 0 ∷ get_or ns 3 0 ∷ []
  four-numbers [] h = absurd (omega arith)
  four-numbers (a ∷ []) h = absurd (omega arith)
  four-numbers (a ∷ b ∷ []) h = absurd (omega arith)
  four-numbers (a ∷ b ∷ c ∷ []) h = absurd (omega arith)
  four-numbers (a ∷ b ∷ c ∷ d ∷ []) h = refl
  four-numbers (a ∷ b ∷ c ∷ d ∷ e ∷ ns) h = absurd (omega arith)

  three-numbers : (ns : List ℕ) → length ns ≡ 3 → ns ≡ get_or ns 0 0 ∷ get_or ns 1 0 ∷ get_or ns 2 0 ∷ []
  three-numbers [] h = absurd (omega arith)
  three-numbers (a ∷ []) h = absurd (omega arith)
  three-numbers (a ∷ b ∷ []) h = absurd (omega arith)
  three-numbers (a ∷ b ∷ c ∷ []) h = refl
  three-numbers (a ∷ b ∷ c ∷ d ∷ ns) h = absurd (omega arith)

  body-spelled : (kind : ℕ) → kind < 3 → (ns : List ℕ) → length ns ≡ slot_count kind → spelled N (edit_form kind) ns ≡ true → body_in_form N kind (get_or ns 2 0) (get_or ns 3 0) ≡ true
  unfolding body_in_form slot_count
  body-spelled zero h ns l k = rw (get_or_past ns 2 0 (omega arith), get_or_past ns 3 0 (omega arith)) refl
  body-spelled (suc zero) h ns l k =
      let f = get_or ns 2 0 in
      let e : (N.names.spells (get_or ns 0 0) && (ltb f (length N.fields) && true)) ≡ true = sym (set-spelled N (get_or ns 0 0) (get_or ns 1 0) f (get_or ns 3 0)) ∙ (rw (← four-numbers ns l) k) in
      and_l (ltb f (length N.fields)) true (and_r (N.names.spells (get_or ns 0 0)) _ e)
  body-spelled (suc (suc zero)) h ns l k = rw (get_or_past ns 2 0 (omega arith), get_or_past ns 3 0 (omega arith)) refl
  body-spelled (suc (suc (suc kind))) h ns l k = absurd (omega arith)

  edit-row : (n k p f v : ℕ) → fits_word n ≡ true → fits_word k ≡ true → fits_word p ≡ true → fits_word f ≡ true → fits_word v ≡ true → N.names.spells n ≡ true → body_in_form N k f v ≡ true
      → is_edit_row_in N (n ∷ k ∷ p ∷ f ∷ v ∷ []) ≡ true
  unfolding is_edit_row_in all
  edit-row n k p f v a b c d e x y = rw (a, b, c, d, e, x, y)

  constraint-row : (a r b : ℕ) → all fits_word (a ∷ r ∷ b ∷ []) ≡ true → N.names.spells a ≡ true → ltb r (length rule_words) ≡ true → N.names.spells b ≡ true → is_constraint_row_in N (a ∷ r ∷ b ∷ []) ≡ true
  unfolding is_constraint_row_in
  constraint-row a r b h x y z = rw (h, x, y, z)

  edit-says : (kind : ℕ) → kind < 3 → fits_word kind ≡ true → SaysLine N (edit_shape kind)
  unfolding edit_line_in
  edit-says kind h b = record {
    text = λ ns l. fill-same N (edit_form kind) _ ns (first-four ns (omega (arith, edit-slots kind)));
    row = λ ns l a k.
        edit-row (get_or ns 0 0) kind (get_or ns 1 0) (get_or ns 2 0) (get_or ns 3 0) (cell-fits ns 0 a) b (cell-fits ns 1 a) (cell-fits ns 2 a) (cell-fits ns 3 a)
        (name-spelled kind h ns k) (body-spelled kind h ns (l ∙ edit-slot-count kind) k);
  }

  constraint-says : SaysLine N constraint_shape
  unfolding constraint_line_in
  constraint-says = record {
    text = λ ns l. fill-same N constraint_form _ ns (first-three ns (omega (arith, constraint-slots)));
    row = λ ns l a k. says-row ns (three-numbers ns (l ∙ constraint-slot-count)) a k;
  }
    where
      says-row : (ns : List ℕ) → ns ≡ get_or ns 0 0 ∷ get_or ns 1 0 ∷ get_or ns 2 0 ∷ [] → all fits_word ns ≡ true → spelled N constraint_form ns ≡ true
          → is_constraint_row_in N (get_or ns 0 0 ∷ get_or ns 1 0 ∷ get_or ns 2 0 ∷ []) ≡ true
      says-row ns e a k =
          let x = get_or ns 0 0 in
          let y = get_or ns 1 0 in
          let z = get_or ns 2 0 in
          let g : (N.names.spells x && (ltb y (length rule_words) && (N.names.spells z && true))) ≡ true = sym (rule-spelled N x y z) ∙ rw (← e) k in
          let g1 = and_r (N.names.spells x) _ g in
          constraint-row x y z (rw (← e) a) (and_l (N.names.spells x) _ g) (and_l (ltb y (length rule_words)) _ g1) (and_l (N.names.spells z) true (and_r (ltb y (length rule_words)) _ g1))

  each : Each N shapes
  unfolding shapes
  each = (edit-says 0 (omega arith) refl, (edit-says 1 (omega arith) refl, (edit-says 2 (omega arith) refl, (constraint-says, tt))))

  said-saying : (h : Shape) (o : Option (List ℕ)) → Saying (said h o)
  said-saying h none = fault-one refl
  said-saying h (some ns) =
      by (all fits_word ns) (λ (a : all fits_word ns ≡ true). rw a (saying-row (h.says ns))) (λ (a : all fits_word ns ≡ false). rw a (fault-two refl))

  by-saying : (hs : List Shape) (s : List ℕ) → Saying (read_by N hs s)
  unfolding read_by read_as
  by-saying [] s = fault-one refl
  by-saying (h ∷ hs) s =
      by (eqb (number_of (read_as N h s)) 1)
      (λ (e : eqb (number_of (read_as N h s)) 1 ≡ true). rw e (by-saying hs s))
      (λ (e : eqb (number_of (read_as N h s)) 1 ≡ false). rw e (said-saying h (taken_in N h.form s)))

  pub line-saying-in : (s : List ℕ) → Saying (line_read_in N s)
  unfolding line_read_in
  line-saying-in s =
      by (ltb line_limit (length s))
      (λ (e : ltb line_limit (length s) ≡ true). rw e (fault-one refl))
      (λ (e : ltb line_limit (length s) ≡ false). rw e (by-saying shapes s))

module _ {N : Notation} (L : LawfulNotation N) where
  said-back : (h : Shape) (s : List ℕ) → SaysLine N h → (o : Option (List ℕ)) → taken_in N h.form s ≡ o → FaithfulIn N (said h o) s
  said-back h s w none e = tt
  said-back h s w (some ns) e =
      by (all fits_word ns)
      (λ (a : all fits_word ns ≡ true).
      let t = fill-taken L h.form s ns e in
      let k : spelled N h.form ns ≡ true = t.2 (all-small ns a) in
      rw a (t.1 k ∙ sym (w.text ns t.0), w.row ns t.0 a k))
      (λ (a : all fits_word ns ≡ false). rw a tt)

  as-back : (h : Shape) (s : List ℕ) → SaysLine N h → FaithfulIn N (read_as N h s) s
  unfolding read_as
  as-back h s w = said-back h s w (taken_in N h.form s) refl

  by-back : (hs : List Shape) (s : List ℕ) → Each N hs → FaithfulIn N (read_by N hs s) s
  unfolding read_by
  by-back [] s w = tt
  by-back (h ∷ hs) s w =
      by (eqb (number_of (read_as N h s)) 1)
      (λ (e : eqb (number_of (read_as N h s)) 1 ≡ true). rw e (by-back hs s w.1))
      (λ (e : eqb (number_of (read_as N h s)) 1 ≡ false). rw e (as-back h s w.0))

  -- A line that says a row is that row's line, and the row is in form.
  pub line-back-in : (s : List ℕ) → FaithfulIn N (line_read_in N s) s
  unfolding line_read_in
  line-back-in s =
      by (ltb line_limit (length s))
      (λ (e : ltb line_limit (length s) ≡ true). rw e tt)
      (λ (e : ltb line_limit (length s) ≡ false). rw e (by-back shapes s (each N)))

-- In decimal.
abbrev pub Faithful : Result Line Refusal → List ℕ → Type 0
Faithful = FaithfulIn decimal_notation

pub edit-line-read : (row : List ℕ) → is_edit_row row ≡ true → line_read (edit_line row) ≡ Ok (Edit row)
edit-line-read = edit-line-read-in decimal-lawful

pub constraint-line-read : (row : List ℕ) → is_constraint_row row ≡ true → line_read (constraint_line row) ≡ Ok (Constraint row)
constraint-line-read = constraint-line-read-in decimal-lawful

pub line-back : (s : List ℕ) → Faithful (line_read s) s
line-back = line-back-in decimal-lawful

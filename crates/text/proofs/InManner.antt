-- The round trip of texts in any lawful manner: a record's text is read as that record, and a text that is read as a record is that record's text. Assumes nothing.
use mathlib.Core.Path.{◌≡◌, refl, ap, sym, ◌∙◌}
use mathlib.Core.Bool.{Bool, true, false}
use mathlib.Core.List.{List, [], ◌∷◌, ◌++◌, map, append_assoc, append-nil, map-append}
use Prim.Native.Nat.{ℕ, suc, ◌+◌}
use native.Mathlib.Omega.{arith}
use borrow.Author.Tests.{eqb-true, eqb-false, ne_eqb, lt-ltb}
use lib.Dec.{eqb, ltb}
use lib.ListN.{length, length-append}
use Rattle.std.specs.Prelude.{Result, Ok, Err}
use Rattle.lists.specs.Lists.{all}
use Rattle.lists.proofs.Lists.{by, and_l, and_r, clash}
use Rattle.record.specs.Record.{Record}
use Rattle.record.specs.Judgement.{sound}
use Rattle.record_rows.specs.row.Row.{Row, same}
use Rattle.record_rows.proofs.row.Compared.{same-eq, same_refl}
use Rattle.record_rows.specs.grounds.Ground.{Rows}
use Rattle.record_tables.specs.Checked.{Checked}
use Rattle.refusals.specs.declared.Refusal.{Refusal}
use Rattle.refusals.specs.Numbers.{number}
use Rattle.refusals.proofs.Numbers.{number-positive}
use Rattle.text_lines.specs.declared.Line.{Line}
use Rattle.text_lines.specs.declared.Line.TheVariants.{Edit, Constraint}
use Rattle.text_lines.specs.Lines.{lines}
use Rattle.text_lines.proofs.Ends.{concat, lines-all}
use Rattle.text.specs.Text.{Manner, joined_lines, rows_text, written_in, Parsed, Accepted, Refused, ◌followed_by◌, ReadSoFar, text_begun, with_header, with_line, judged, line_fault, awaits_header, row_fed, line_fed, text_finished, read_from, read_in, rows_number}
use Rattle.text.specs.Rows.{rows_from, record_held, read_rows_in}
use Rattle.text.proofs.Faultless.{EditsClean, ConstraintsClean, none-faulty, rows-clean, edit-more, constraint-more}
use Rattle.text.proofs.Manners.{SaidBack, LawfulLines, LawfulManner, header_lines}

-- an answer is one or the other
pub refused-not : {P A : Type 0} (k n : ℕ) (x : A) → Refused k n ≡ Accepted x → P
refused-not k n x h = let z : ◌≡◌ {A = ℕ} 0 1 = cc in absurd (omega arith)

joined_is : (ls : List (List ℕ)) → joined_lines ls ≡ concat ls
unfolding joined_lines concat
joined_is [] = refl
joined_is (l ∷ ls) = ap (λ (t : List ℕ). l ++ t) (joined_is ls)

joined_snoc : (ls : List (List ℕ)) (l : List ℕ) → joined_lines (ls ++ (l ∷ [])) ≡ joined_lines ls ++ l
unfolding joined_lines
joined_snoc [] l = append-nil l
joined_snoc (x ∷ ls) l = ap (λ (t : List ℕ). x ++ t) (joined_snoc ls l) ∙ sym (append_assoc x (joined_lines ls) l)

all_snoc : {A : Type 0} (f : A → Bool) (l : List A) (x : A) → all f l ≡ true → f x ≡ true → all f (l ++ (x ∷ [])) ≡ true
unfolding all
all_snoc f [] x h e = rw e
all_snoc f (y ∷ l) x h e = rw (and_l (f y) (all f l) h) (all_snoc f l x (and_r (f y) (all f l) h) e)

no-header : (h : List ℕ) → ltb 0 (length h) ≡ false → h ≡ []
no-header [] e = refl
no-header (c ∷ h) e = clash (lt-ltb 0 (length (c ∷ h)) (omega arith)) e

-- what was read in so many lines
abbrev pub so_far : ℕ → Rows → Rows → ReadSoFar
so_far n edits constraints = record { count = n; edits = edits; constraints = constraints }

module _ (M : Manner) where
  -- one line more of the text
  text-edit : (edits constraints : Rows) (row : Row) → constraints ≡ [] → rows_text M (edits ++ (row ∷ [])) constraints ≡ rows_text M edits constraints ++ M.line.edit row
  unfolding rows_text joined_lines
  text-edit edits constraints row e = rw (e, map-append, joined_snoc (map M.line.edit edits) (M.line.edit row)) (simp append-nil)

  text-constraint : (edits constraints : Rows) (row : Row) → rows_text M edits (constraints ++ (row ∷ [])) ≡ rows_text M edits constraints ++ M.line.constraint row
  unfolding rows_text
  text-constraint edits constraints row =
      rw (map-append, joined_snoc (map M.line.constraint constraints) (M.line.constraint row)) (sym (append_assoc (joined_lines (map M.line.edit edits)) (joined_lines (map M.line.constraint constraints)) (M.line.constraint row)))

  -- the header is the first line
  pub past-header : (n : ℕ) → awaits_header M (suc n) ≡ false
  past-header n = rw (ne_eqb (suc n) 0 (λ e. absurd (omega (arith, e)))) refl

  -- one line read
  module _ (n : ℕ) (edits constraints : Rows) (l : List ℕ) (ls : List (List ℕ)) (o : awaits_header M n ≡ false) where
    pub line-taken : line_fault M edits constraints (M.line.reads l) ≡ 0 → read_from M (so_far n edits constraints) (l ∷ ls) ≡ read_from M (with_line (M.line.reads l) (so_far n edits constraints)) ls
    unfolding read_from line_fed
    line-taken z = rw (o, z) refl

    pub line-refused : (line_fault M edits constraints (M.line.reads l) ≡ 0 → ⊥) → read_from M (so_far n edits constraints) (l ∷ ls) ≡ Refused (line_fault M edits constraints (M.line.reads l)) (suc n)
    unfolding read_from line_fed
    line-refused z = rw (o, ne_eqb (line_fault M edits constraints (M.line.reads l)) 0 z) refl

    row-taken : line_fault M edits constraints (M.line.reads l) ≡ 0 → rows_from M (so_far n edits constraints) (l ∷ ls) ≡ rows_from M (with_line (M.line.reads l) (so_far n edits constraints)) ls
    unfolding rows_from line_fed
    row-taken z = rw (o, z) refl

    row-refused : (line_fault M edits constraints (M.line.reads l) ≡ 0 → ⊥) → rows_from M (so_far n edits constraints) (l ∷ ls) ≡ Refused (line_fault M edits constraints (M.line.reads l)) (suc n)
    unfolding rows_from line_fed
    row-refused z = rw (o, ne_eqb (line_fault M edits constraints (M.line.reads l)) 0 z) refl

  -- a line that is accepted is one more
  row-counted : (before now : ReadSoFar) (said : Result Line Refusal) → row_fed M before said ≡ Accepted now → now.count ≡ suc before.count
  unfolding line_fault
  row-counted before now (Ok (Edit row)) h =
      by (eqb (M.edit_number before.edits before.constraints row) 0)
      (λ (e : eqb (M.edit_number before.edits before.constraints row) 0 ≡ true). let q : Accepted (with_line (Ok (Edit row)) before) ≡ Accepted now = rw e at h in let n : with_line (Ok (Edit row)) before ≡ now = cc in sym (ap (λ (x : ReadSoFar). x.count) n))
      (λ (e : eqb (M.edit_number before.edits before.constraints row) 0 ≡ false). refused-not (M.edit_number before.edits before.constraints row) (suc before.count) now (rw e at h))
  row-counted before now (Ok (Constraint row)) h =
      by (eqb (M.constraint_number before.edits before.constraints row) 0)
      (λ (e : eqb (M.constraint_number before.edits before.constraints row) 0 ≡ true). let q : Accepted (with_line (Ok (Constraint row)) before) ≡ Accepted now = rw e at h in let n : with_line (Ok (Constraint row)) before ≡ now = cc in sym (ap (λ (x : ReadSoFar). x.count) n))
      (λ (e : eqb (M.constraint_number before.edits before.constraints row) 0 ≡ false). refused-not (M.constraint_number before.edits before.constraints row) (suc before.count) now (rw e at h))
  row-counted before now (Err refusal) h = refused-not (number refusal) (suc before.count) now (rw (ne_eqb (number refusal) 0 (number-positive refusal)) at h)

  line-counted : (before now : ReadSoFar) (l : List ℕ) → line_fed M before l ≡ Accepted now → now.count ≡ suc before.count
  unfolding line_fed
  line-counted before now l h =
      by (awaits_header M before.count)
      (λ (o : awaits_header M before.count ≡ true).
      by (same l M.header)
      (λ (s : same l M.header ≡ true). let q : Accepted (with_header before) ≡ Accepted now = rw (o, s) at h in let n : with_header before ≡ now = cc in sym (ap (λ (x : ReadSoFar). x.count) n))
      (λ (s : same l M.header ≡ false). refused-not 1 (suc before.count) now (rw (o, s) at h)))
      (λ (o : awaits_header M before.count ≡ false). row-counted before now (M.line.reads l) (rw o at h))

  rows-counted : (ls : List (List ℕ)) (before held : ReadSoFar) → rows_from M before ls ≡ Accepted held → held.count ≡ before.count + length ls
  unfolding rows_from
  rows-counted [] before held h = let n : before ≡ held = cc in rw (← n) (omega arith)
  rows-counted (l ∷ ls) before held h = go (line_fed M before l) refl h (λ now. rows-counted ls now held)
    where
      go : (p : Parsed ReadSoFar) → line_fed M before l ≡ p → (p followed_by (λ now. rows_from M now ls)) ≡ Accepted held
          → ((now : ReadSoFar) → rows_from M now ls ≡ Accepted held → held.count ≡ now.count + length ls) → held.count ≡ before.count + length (l ∷ ls)
      go (Accepted now) e q more = omega (arith, more now q, line-counted before now l e)
      go (Refused k n) e q more = refused-not k n held q

  -- a refusal has a number
  line-number : (before : ReadSoFar) (l : List ℕ) (k n : ℕ) → line_fed M before l ≡ Refused k n → k ≡ 0 → ⊥
  unfolding line_fed
  line-number before l k n h z =
      by (awaits_header M before.count)
      (λ (o : awaits_header M before.count ≡ true).
      by (same l M.header)
      (λ (s : same l M.header ≡ true). refused-not k n (with_header before) (sym (rw (o, s) at h)))
      (λ (s : same l M.header ≡ false). let q : Refused 1 (suc before.count) ≡ Refused k n = rw (o, s) at h in let m : 1 ≡ k = cc in omega arith))
      (λ (o : awaits_header M before.count ≡ false).
      let number = line_fault M before.edits before.constraints (M.line.reads l) in
      by (eqb number 0)
      (λ (e : eqb number 0 ≡ true). refused-not k n (with_line (M.line.reads l) before) (sym (rw (o, e) at h)))
      (λ (e : eqb number 0 ≡ false). let q : Refused number (suc before.count) ≡ Refused k n = rw (o, e) at h in let m : number ≡ k = cc in eqb-false number 0 e (m ∙ z)))

  rows-number : (ls : List (List ℕ)) (before : ReadSoFar) (k n : ℕ) → rows_from M before ls ≡ Refused k n → k ≡ 0 → ⊥
  unfolding rows_from
  rows-number [] before k n h z = refused-not k n before (sym h)
  rows-number (l ∷ ls) before k n h z = go (line_fed M before l) refl h (λ now q. rows-number ls now k n q z)
    where
      go : (p : Parsed ReadSoFar) → line_fed M before l ≡ p → (p followed_by (λ now. rows_from M now ls)) ≡ Refused k n → ((now : ReadSoFar) → rows_from M now ls ≡ Refused k n → ⊥) → ⊥
      go (Accepted now) e q more = more now q
      go (Refused i j) e q more = line-number before l i j e (let m : i ≡ k = cc in m ∙ z)

  pub refused-number-in : (text : List ℕ) (k n : ℕ) → read_rows_in M text ≡ Refused k n → k ≡ 0 → ⊥
  unfolding read_rows_in record_held
  refused-number-in text k n h z = go (rows_from M text_begun (lines text)) refl h
    where
      go : (p : Parsed ReadSoFar) → rows_from M text_begun (lines text) ≡ p → (p followed_by record_held M) ≡ Refused k n → ⊥
      go (Accepted held) e q =
          by (awaits_header M held.count)
          (λ (o : awaits_header M held.count ≡ true). let u : Refused 1 1 ≡ Refused k n = rw o at q in let m : 1 ≡ k = cc in omega arith)
          (λ (o : awaits_header M held.count ≡ false). refused-not k n (M.gathered held.edits held.constraints) (sym (rw o at q)))
      go (Refused i j) e q = rows-number (lines text) text_begun i j e (let m : i ≡ k = cc in m ∙ z)

  -- after the rows comes 8
  read-fed : (ls : List (List ℕ)) (before : ReadSoFar) → read_from M before ls ≡ (rows_from M before ls followed_by text_finished M)
  unfolding read_from rows_from
  read-fed [] before = refl
  read-fed (l ∷ ls) before = go (line_fed M before l) (λ now. read-fed ls now)
    where
      go : (p : Parsed ReadSoFar) → ((now : ReadSoFar) → read_from M now ls ≡ (rows_from M now ls followed_by text_finished M))
          → (p followed_by (λ now. read_from M now ls)) ≡ ((p followed_by (λ now. rows_from M now ls)) followed_by text_finished M)
      go (Accepted now) more = more now
      go (Refused k n) more = refl

  finished-rows : (p : Parsed ReadSoFar) (count : ℕ) → ((held : ReadSoFar) → p ≡ Accepted held → held.count ≡ count) → (p followed_by text_finished M) ≡ ((p followed_by record_held M) followed_by judged count)
  unfolding text_finished record_held
  finished-rows (Accepted held) count c =
      by (awaits_header M held.count)
      (λ (o : awaits_header M held.count ≡ true). rw o refl)
      (λ (o : awaits_header M held.count ≡ false). rw (o, ← c held refl) refl)
  finished-rows (Refused k n) count c = refl

  pub rows-judged : (text : List ℕ) → read_in M text ≡ (read_rows_in M text followed_by judged (length (lines text)))
  unfolding read_in read_rows_in
  rows-judged text =
      read-fed (lines text) text_begun
      ∙ finished-rows (rows_from M text_begun (lines text)) (length (lines text)) (λ held e. rows-counted (lines text) text_begun held e ∙ omega arith)

  judged-accepted : {P : Type 0} (count : ℕ) (a : Parsed Record) (R : Record) → (a followed_by judged count) ≡ Accepted R → (a ≡ Accepted R → sound R ≡ true → P) → P
  judged-accepted count (Accepted S) R h k =
      by (sound S)
      (λ (e : sound S ≡ true). let q : Accepted S ≡ Accepted R = rw e at h in let m : S ≡ R = cc in k q (rw m at e))
      (λ (e : sound S ≡ false). refused-not 8 count R (rw e at h))
  judged-accepted count (Refused n l) R h k = refused-not n l R h

  -- the rows of a text without a faulty line
  rows-held : {P : Type 0} (p : Parsed ReadSoFar) (R : Record) → (p followed_by record_held M) ≡ Accepted R
      → ((held : ReadSoFar) → p ≡ Accepted held → awaits_header M held.count ≡ false → M.gathered held.edits held.constraints ≡ R → P) → P
  unfolding record_held
  rows-held (Accepted held) R h k =
      by (awaits_header M held.count)
      (λ (o : awaits_header M held.count ≡ true). refused-not 1 1 R (rw o at h))
      (λ (o : awaits_header M held.count ≡ false). let q : Accepted (M.gathered held.edits held.constraints) ≡ Accepted R = rw o at h in k held refl o cc)
  rows-held (Refused k n) R h more = refused-not k n R h

  module _ (W : LawfulManner M) where
    abbrev V : LawfulLines M.line
    V = W.lawful-lines

    -- What the lines of a text without a faulty one came to.
    record Came (edits constraints : Rows) (ls : List (List ℕ)) (held : ReadSoFar) : Type 0 where
      pub faultless : rows_number M held.edits held.constraints ≡ 0
      pub forms : all M.line.spells_edit held.edits ≡ true
      pub text-is : rows_text M held.edits held.constraints ≡ rows_text M edits constraints ++ joined_lines ls
      pub size : length held.edits + length held.constraints ≡ (length edits + length constraints) + length ls

    -- with the row of one line before the others
    module _ (edits constraints : Rows) (l : List ℕ) (ls : List (List ℕ)) (held : ReadSoFar) where
      came-more : (es cs : Rows) → rows_text M es cs ≡ rows_text M edits constraints ++ l → length es + length cs ≡ suc (length edits + length constraints) → Came es cs ls held
          → Came edits constraints (l ∷ ls) held
      unfolding joined_lines
      came-more es cs t n c = record {
        faultless = c.faultless;
        forms = c.forms;
        text-is = c.text-is ∙ rw t (append_assoc (rows_text M edits constraints) l (joined_lines ls));
        size = c.size ∙ omega (arith, n);
      }

      came-edit : (row : Row) → constraints ≡ [] → l ≡ M.line.edit row → Came (edits ++ (row ∷ [])) constraints ls held → Came edits constraints (l ∷ ls) held
      came-edit row n e =
          came-more (edits ++ (row ∷ [])) constraints (rw e (text-edit edits constraints row n)) (omega (arith, length-append edits (row ∷ [])))

      came-constraint : (row : Row) → l ≡ M.line.constraint row → Came edits (constraints ++ (row ∷ [])) ls held → Came edits constraints (l ∷ ls) held
      came-constraint row e =
          came-more edits (constraints ++ (row ∷ [])) (rw e (text-constraint edits constraints row)) (omega (arith, length-append constraints (row ∷ [])))

    -- the rows of one line more are without fault, and each edit is in form
    module _ {P : Type 0} (edits constraints : Rows) (l : List ℕ) (g : rows_number M edits constraints ≡ 0) (f : all M.line.spells_edit edits ≡ true) where
      pub said-row : (said : Result Line Refusal) → SaidBack M.line said l → line_fault M edits constraints said ≡ 0
          → ((row : Row) → constraints ≡ [] → said ≡ Ok (Edit row) → l ≡ M.line.edit row → rows_number M (edits ++ (row ∷ [])) constraints ≡ 0 → all M.line.spells_edit (edits ++ (row ∷ [])) ≡ true → P)
          → ((row : Row) → said ≡ Ok (Constraint row) → l ≡ M.line.constraint row → rows_number M edits (constraints ++ (row ∷ [])) ≡ 0 → P)
          → P
      unfolding line_fault
      said-row (Ok (Edit row)) b z p q =
          let e : constraints ≡ [] = W.edits-first edits constraints row z in
          let h : rows_number M (edits ++ (row ∷ [])) [] ≡ 0 = edit-more M edits row (rw e at g) (rw e at z) in
          p row e refl b.0 (rw e h) (all_snoc M.line.spells_edit edits row f b.1)
      said-row (Ok (Constraint row)) b z p q = q row refl b.0 (constraint-more M edits constraints row g z)
      said-row (Err refusal) b z p q = absurd (number-positive refusal z)

    came : (ls : List (List ℕ)) (n : ℕ) (edits constraints : Rows) (held : ReadSoFar) → awaits_header M n ≡ false → rows_number M edits constraints ≡ 0 → all M.line.spells_edit edits ≡ true
        → rows_from M (so_far n edits constraints) ls ≡ Accepted held → Came edits constraints ls held
    unfolding rows_from joined_lines
    came [] n edits constraints held o g f h =
        let e : so_far n edits constraints ≡ held = cc in
        rw (← e)
        (record {
          faultless = g;
          forms = f;
          text-is = sym (append-nil (rows_text M edits constraints));
          size = omega arith;
        })
    came (l ∷ ls) n edits constraints held o g f h =
        let said = M.line.reads l in
        by (eqb (line_fault M edits constraints said) 0)
        (λ (e : eqb (line_fault M edits constraints said) 0 ≡ true).
        let z : line_fault M edits constraints said ≡ 0 = eqb-true _ 0 e in
        let k : rows_from M (with_line said (so_far n edits constraints)) ls ≡ Accepted held = sym (row-taken n edits constraints l ls o z) ∙ h in
        said-row edits constraints l g f said (V.said-back l) z
        (λ row c y t u v. came-edit edits constraints l ls held row c t (came ls (suc n) (edits ++ (row ∷ [])) constraints held (past-header n) u v (rw y at k)))
        (λ row y t u. came-constraint edits constraints l ls held row t (came ls (suc n) edits (constraints ++ (row ∷ [])) held (past-header n) u f (rw y at k))))
        (λ (e : eqb (line_fault M edits constraints said) 0 ≡ false).
        refused-not (line_fault M edits constraints said) (suc n) held (sym (row-refused n edits constraints l ls o (eqb-false _ 0 e)) ∙ h))

    -- A text without a faulty line gave a checked record, sound or not, and is that record's text; but for the header each line is one of the record's rows.
    pub record RowsTookIn (text : List ℕ) (R : Record) : Type 0 where
      pub checked : Checked R
      pub forms : all M.line.spells_edit (M.edits R) ≡ true
      pub same : written_in M R ≡ text
      pub count : header_lines M + (length (M.edits R) + length (M.constraints R)) ≡ length (lines text)

    took : (text : List ℕ) (ls : List (List ℕ)) (held : ReadSoFar) → M.header ++ joined_lines ls ≡ text → header_lines M + length ls ≡ length (lines text) → Came [] [] ls held
        → RowsTookIn text (M.gathered held.edits held.constraints)
    unfolding written_in rows_text joined_lines
    took text ls held e k c =
        let es = W.edits-back held.edits held.constraints c.faultless in
        let cs = W.constraints-back held.edits held.constraints c.faultless in
        record {
          checked = W.checked held.edits held.constraints c.faultless;
          forms = rw es c.forms;
          same = rw (es, cs) (ap (λ (t : List ℕ). M.header ++ t) c.text-is ∙ e);
          count = rw (es, cs) (ap (λ (n : ℕ). header_lines M + n) (c.size ∙ omega arith) ∙ k);
        }

    -- the header was read first
    headed : {P : Type 0} (ls : List (List ℕ)) (held : ReadSoFar) → ltb 0 (length M.header) ≡ true → rows_from M text_begun ls ≡ Accepted held → awaits_header M held.count ≡ false
        → ((rest : List (List ℕ)) → ls ≡ M.header ∷ rest → rows_from M (so_far 1 [] []) rest ≡ Accepted held → P) → P
    unfolding rows_from line_fed
    headed [] held e h o more = let n : text_begun ≡ held = cc in clash e (rw (← n) at o)
    headed (l ∷ ls) held e h o more =
        by (same l M.header)
        (λ (s : same l M.header ≡ true). more ls (ap (λ (x : List ℕ). x ∷ ls) (same-eq l M.header s)) (rw (e, s) at h))
        (λ (s : same l M.header ≡ false). refused-not 1 1 held (rw (e, s) at h))

    pub rows-took-in : (text : List ℕ) (R : Record) → read_rows_in M text ≡ Accepted R → RowsTookIn text R
    unfolding read_rows_in joined_lines all
    rows-took-in text R h =
        let a : joined_lines (lines text) ≡ text = joined_is (lines text) ∙ lines-all text in
        rows-held (rows_from M text_begun (lines text)) R h
        (λ held k o r.
        rw (← r)
        (by (ltb 0 (length M.header))
        (λ (e : ltb 0 (length M.header) ≡ true).
        headed (lines text) held e k o
        (λ rest q j.
        let n : header_lines M + length rest ≡ length (lines text) = rw (e, q) (omega arith) in
        took text rest held (sym (ap joined_lines q) ∙ a) n (came rest 1 [] [] held (past-header 0) (none-faulty M) refl j)))
        (λ (e : ltb 0 (length M.header) ≡ false).
        let n : M.header ≡ [] = no-header M.header e in
        took text (lines text) held (ap (λ (x : List ℕ). x ++ joined_lines (lines text)) n ∙ a) (rw e (omega arith)) (came (lines text) 0 [] [] held (rw e refl) (none-faulty M) refl k))))

    -- An accepted text gave a checked record, and is that record's text; but for the header each line is one of the record's rows.
    pub record TookIn (text : List ℕ) (R : Record) : Type 0 where
      pub checked : Checked R
      pub sound-now : sound R ≡ true
      pub forms : all M.line.spells_edit (M.edits R) ≡ true
      pub same : written_in M R ≡ text
      pub count : header_lines M + (length (M.edits R) + length (M.constraints R)) ≡ length (lines text)

    pub took-in : (text : List ℕ) (R : Record) → read_in M text ≡ Accepted R → TookIn text R
    took-in text R h =
        judged-accepted (length (lines text)) (read_rows_in M text) R (sym (rows-judged text) ∙ h)
        (λ q s. let t = rows-took-in text R q in record { checked = t.checked; sound-now = s; forms = t.forms; same = t.same; count = t.count })

    -- An accepted text, read and written, is the same bytes.
    pub written-again-in : (text : List ℕ) (R : Record) → read_in M text ≡ Accepted R → written_in M R ≡ text
    written-again-in text R h = (took-in text R h).same

    -- one line of a record's text is read
    step-edit : (n : ℕ) (edits : Rows) (row : Row) (rest : List (List ℕ)) → awaits_header M n ≡ false → M.line.spells_edit row ≡ true → M.edit_number edits [] row ≡ 0
        → rows_from M (so_far n edits []) (M.line.edit row ∷ rest) ≡ rows_from M (so_far (suc n) (edits ++ (row ∷ [])) []) rest
    unfolding line_fault
    step-edit n edits row rest o f h =
        let r = V.edit-read row f in
        row-taken n edits [] (M.line.edit row) rest o (rw (r, h) refl) ∙ rw r refl

    step-constraint : (n : ℕ) (edits constraints : Rows) (row : Row) (rest : List (List ℕ)) → awaits_header M n ≡ false → M.line.spells_constraint row ≡ true → M.constraint_number edits constraints row ≡ 0
        → rows_from M (so_far n edits constraints) (M.line.constraint row ∷ rest) ≡ rows_from M (so_far (suc n) edits (constraints ++ (row ∷ []))) rest
    unfolding line_fault
    step-constraint n edits constraints row rest o f h =
        let r = V.constraint-read row f in
        row-taken n edits constraints (M.line.constraint row) rest o (rw (r, h) refl) ∙ rw r refl

    edits-read : (es done : Rows) (n : ℕ) (s : List ℕ) → awaits_header M n ≡ false → EditsClean M done es → all M.line.spells_edit es ≡ true
        → (m : ℕ) × (awaits_header M m ≡ false) × (rows_from M (so_far n done []) (lines (joined_lines (map M.line.edit es) ++ s)) ≡ rows_from M (so_far m (done ++ es) []) (lines s))
    unfolding joined_lines all
    edits-read [] done n s o c f = (n, o, rw (append-nil done) refl)
    edits-read (x ∷ es) done n s o c f =
        let r = edits-read es (done ++ (x ∷ [])) (suc n) s (past-header n) c.1 (and_r (M.line.spells_edit x) (all M.line.spells_edit es) f) in
        let q : done ++ (x ∷ es) ≡ (done ++ (x ∷ [])) ++ es = sym (append_assoc done (x ∷ []) es) in (
          r.0,
          r.1,
          rw (append_assoc (M.line.edit x) (joined_lines (map M.line.edit es)) s, V.edit-first x (joined_lines (map M.line.edit es) ++ s) (and_l (M.line.spells_edit x) (all M.line.spells_edit es) f), q)
              (step-edit n done x (lines (joined_lines (map M.line.edit es) ++ s)) o (and_l (M.line.spells_edit x) (all M.line.spells_edit es) f) c.0 ∙ r.2),
        )

    constraints-read : (edits cs done : Rows) (n : ℕ) → awaits_header M n ≡ false → ConstraintsClean M edits done cs → all M.line.spells_constraint cs ≡ true
        → (m : ℕ) × (awaits_header M m ≡ false) × (rows_from M (so_far n edits done) (lines (joined_lines (map M.line.constraint cs))) ≡ Accepted (so_far m edits (done ++ cs)))
    unfolding joined_lines lines rows_from all
    constraints-read edits [] done n o c f = (n, o, rw (append-nil done) refl)
    constraints-read edits (x ∷ cs) done n o c f =
        let r = constraints-read edits cs (done ++ (x ∷ [])) (suc n) (past-header n) c.1 (and_r (M.line.spells_constraint x) (all M.line.spells_constraint cs) f) in
        let q : done ++ (x ∷ cs) ≡ (done ++ (x ∷ [])) ++ cs = sym (append_assoc done (x ∷ []) cs) in (
          r.0,
          r.1,
          rw (V.constraint-first x (joined_lines (map M.line.constraint cs)) (and_l (M.line.spells_constraint x) (all M.line.spells_constraint cs) f), q)
              (step-constraint n edits done x (lines (joined_lines (map M.line.constraint cs))) o (and_l (M.line.spells_constraint x) (all M.line.spells_constraint cs) f) c.0 ∙ r.2),
        )

    module _ (R : Record) (g : rows_number M (M.edits R) (M.constraints R) ≡ 0) (f : all M.line.spells_edit (M.edits R) ≡ true) (k : all M.line.spells_constraint (M.constraints R) ≡ true)
        (b : M.gathered (M.edits R) (M.constraints R) ≡ R) where
      rows-again : (n : ℕ) → awaits_header M n ≡ false → (m : ℕ) × (awaits_header M m ≡ false) × (rows_from M (so_far n [] []) (lines (rows_text M (M.edits R) (M.constraints R))) ≡ Accepted (so_far m (M.edits R) (M.constraints R)))
      unfolding rows_text
      rows-again n o =
          let c = rows-clean M (M.edits R) (M.constraints R) g in
          let e = edits-read (M.edits R) [] n (joined_lines (map M.line.constraint (M.constraints R))) o c.0 f in
          let d = constraints-read (M.edits R) (M.constraints R) [] e.0 e.1 c.1 k in
          (d.0, d.1, e.2 ∙ d.2)

      record-again : (p : Parsed ReadSoFar) → (m : ℕ) × (awaits_header M m ≡ false) × (p ≡ Accepted (so_far m (M.edits R) (M.constraints R))) → (p followed_by record_held M) ≡ Accepted R
      unfolding record_held
      record-again p d = rw (d.2, d.1, b) refl

      -- The lines of what was written are accepted, and their rows are those of the record, sound or not.
      pub rows-read-in : read_rows_in M (written_in M R) ≡ Accepted R
      unfolding read_rows_in written_in rows_from line_fed
      rows-read-in =
          by (ltb 0 (length M.header))
          (λ (e : ltb 0 (length M.header) ≡ true).
          rw (W.header-first e (rows_text M (M.edits R) (M.constraints R)), e, same_refl M.header) (record-again (rows_from M (so_far 1 [] []) (lines (rows_text M (M.edits R) (M.constraints R)))) (rows-again 1 (past-header 0))))
          (λ (e : ltb 0 (length M.header) ≡ false).
          let n : M.header ≡ [] = no-header M.header e in
          ap (λ (h : List ℕ). rows_from M text_begun (lines (h ++ rows_text M (M.edits R) (M.constraints R))) followed_by record_held M) n
          ∙ record-again (rows_from M text_begun (lines (rows_text M (M.edits R) (M.constraints R)))) (rows-again 0 (rw e)))

      -- Reading what was written gives the same record.
      pub read-again-in : sound R ≡ true → read_in M (written_in M R) ≡ Accepted R
      read-again-in s = rows-judged (written_in M R) ∙ ap (λ (a : Parsed Record). a followed_by judged (length (lines (written_in M R)))) rows-read-in ∙ rw s refl

-- The first bytes of a text decide: a text without fault has at most 639 lines of rows of at most 101 bytes, and a header, so that a longer one has its fault
-- before the end of the line after these, and what follows changes nothing. Assumes nothing.
use mathlib.Core.Path.{◌≡◌, refl, ap, sym, ◌∙◌}
use mathlib.Core.Bool.{true, false}
use mathlib.Core.Logic.{◌⊎◌, inl, inr, ⊎_elim, ◌≢◌}
use mathlib.Core.List.{List, [], ◌∷◌, ◌++◌, append_assoc, append-nil}
use Prim.Native.Nat.{ℕ, zero, suc, ◌+◌, ◌*◌, ◌≤◌, ◌<◌}
use native.Mathlib.Omega.{arith}
use borrow.Author.Tests.{eqb-true, eqb-false, ne_eqb, ltb-false, ltb-true}
use lib.Dec.{eqb, ltb}
use lib.ListN.{length, length-append}
use Rattle.std.specs.Prelude.{Result, Ok, Err}
use Rattle.lists.proofs.Lists.{by, or-no-l, or-no-r}
use Rattle.lists.specs.Lists.{mem, all}
use Rattle.record.specs.Judgement.{sound}
use Rattle.record_rows.specs.row.Row.{same}
use Rattle.record_rows.proofs.row.Compared.{same-eq}
use Rattle.record_rows.specs.grounds.Ground.{Rows, row_fault, ◌given◌, ◌orelse◌}
use Rattle.record_tables.specs.Table.{names_of, edit_kind, constraint_kind}
use Rattle.record_rows.proofs.grounds.Small.{orelse-small, given-small, row-fault-small}
use Rattle.record_tables.proofs.Further.{further-small}
use Rattle.refusals.specs.declared.Refusal.{Refusal}
use Rattle.text_lines.specs.declared.Line.{Line}
use Rattle.text_lines.specs.declared.Line.TheVariants.{Edit, Constraint}
use Rattle.text_lines.specs.Line.{line_limit}
use Rattle.text_lines.specs.Lines.{lines, joined}
use Rattle.text_lines.proofs.Ends.{ended-line}
use Rattle.text.specs.Text.{Manner, edit_fault, constraint_fault, old_manner, line_fault, Answer, Accepted, Refused, ReadSoFar, text_begun, with_line, awaits_header, line_fed, text_finished, read_from, read_in, read_text, rows_number}
use Rattle.text.proofs.Faultless.{none-faulty}
use Rattle.text.proofs.Manners.{SaidBack, LawfulManner, header_lines}
use Rattle.text.proofs.InManner.{so_far, past-header, line-taken, line-refused, said-row}
use Rattle.text.proofs.RoundTrip.{old-lawful}

-- a text goes to its first byte 10, or has none
pub record FirstEnd (s : List ℕ) : Type 0 where
  pub inner : List ℕ
  pub rest : List ℕ
  pub plain : mem 10 inner ≡ false
  pub is : s ≡ (inner ++ (10 ∷ [])) ++ rest

pub first-end : (s : List ℕ) → FirstEnd s ⊎ (mem 10 s ≡ false)
unfolding mem
first-end [] = inr refl
first-end (c ∷ s) =
    by (eqb 10 c)
    (λ (e : eqb 10 c ≡ true). let q : c ≡ 10 = sym (eqb-true 10 c e) in inl (record { inner = []; rest = s; plain = refl; is = rw q }))
    (λ (e : eqb 10 c ≡ false). rw e (more e (first-end s)))
  where
    more : eqb 10 c ≡ false → FirstEnd s ⊎ (mem 10 s ≡ false) → FirstEnd (c ∷ s) ⊎ (mem 10 s ≡ false)
    more e (inl f) = inl (record { inner = c ∷ f.inner; rest = f.rest; plain = rw (e, f.plain); is = ap (λ (l : List ℕ). c ∷ l) f.is })
    more e (inr n) = inr n

-- bytes without byte 10 begin the first line
pub record Begins (s : List ℕ) (ls : List (List ℕ)) : Type 0 where
  pub more : List ℕ
  pub later : List (List ℕ)
  pub is : ls ≡ (s ++ more) ∷ later

begins-joined : (c : ℕ) (ls : List (List ℕ)) → Begins (c ∷ []) (joined c ls)
begins-joined c [] = record { more = []; later = []; is = refl }
begins-joined c (l ∷ ls) = record { more = l; later = ls; is = refl }

not-ten : (c : ℕ) (s : List ℕ) → mem 10 (c ∷ s) ≡ false → eqb c 10 ≡ false
unfolding mem
not-ten c s h = let n : 10 ≢ c = eqb-false 10 c (or-no-l (eqb 10 c) (mem 10 s) h) in ne_eqb c 10 (λ e. n (sym e))

pub begins : (c : ℕ) (s q : List ℕ) → mem 10 (c ∷ s) ≡ false → Begins (c ∷ s) (lines ((c ∷ s) ++ q))
unfolding lines mem
begins c [] q h = rw (not-ten c [] h) (begins-joined c (lines q))
begins c (d ∷ s) q h =
    let b = begins d s q (or-no-r (eqb 10 c) (mem 10 (d ∷ s)) h) in
    rw (not-ten c (d ∷ s) h) (record { more = b.more; later = b.later; is = ap (joined c) b.is })

-- two answers are the same refusal
pub record Decided (a b : Answer) : Type 0 where
  pub number : ℕ
  pub line : ℕ
  pub first : a ≡ Refused number line
  pub second : b ≡ Refused number line

module _ (M : Manner) (W : LawfulManner M) where
  -- what was read without fault in so many lines
  record ReadWell (edits constraints : Rows) : Type 0 where
    pub faultless : rows_number M edits constraints ≡ 0
    pub forms : all M.line.spells_edit edits ≡ true

  well-none : ReadWell [] []
  unfolding all
  well-none = record { faultless = none-faulty M; forms = refl }

  -- a row's line without fault has at most 101 bytes, and gives one row more
  line-short : (edits constraints : Rows) (l : List ℕ) → line_fault M edits constraints (M.line.reads l) ≡ 0 → length l ≤ line_limit
  unfolding line_fault
  line-short edits constraints l =
      by (ltb line_limit (length l))
      (λ (e : ltb line_limit (length l) ≡ true). rw (W.lawful-lines.too-long l (ltb-true line_limit (length l) e)) (λ z. let y : ◌≡◌ {A = ℕ} 1 0 = z in absurd (omega arith)))
      (λ (e : ltb line_limit (length l) ≡ false). λ z. ltb-false line_limit (length l) e)

  next-rows : {P : Type 0} (n : ℕ) (edits constraints : Rows) (l : List ℕ) → ReadWell edits constraints → line_fault M edits constraints (M.line.reads l) ≡ 0
      → ((es cs : Rows) → with_line (M.line.reads l) (so_far n edits constraints) ≡ so_far (suc n) es cs → ReadWell es cs → length es + length cs ≡ suc (length edits + length constraints) → P) → P
  next-rows n edits constraints l g z k =
      said-row M W edits constraints l g.faultless g.forms (M.line.reads l) (W.lawful-lines.said-back l) z
      (λ row c y t u v. k (edits ++ (row ∷ [])) constraints (rw y refl) (record { faultless = u; forms = v }) (omega (arith, length-append edits (row ∷ []))))
      (λ row y t u. k edits (constraints ++ (row ∷ [])) (rw y refl) (record { faultless = u; forms = g.forms }) (omega (arith, length-append constraints (row ∷ []))))

  too_long : (n : ℕ) (edits constraints : Rows) (l : List ℕ) (rest : List (List ℕ)) → awaits_header M n ≡ false → line_limit < length l → read_from M (so_far n edits constraints) (l ∷ rest) ≡ Refused 1 (suc n)
  unfolding read_from line_fed line_fault
  too_long n edits constraints l rest o h = rw (o, W.lawful-lines.too-long l h) refl

  module _ (q : List ℕ) where
    -- what was to be shown of a text in this state
    abbrev Goal : ReadSoFar → List ℕ → Type 0
    Goal before s = Decided (read_from M before (lines s)) (read_from M before (lines (s ++ q)))

    -- a line without end that is too long
    open-line : (n : ℕ) (edits constraints : Rows) (u : List ℕ) → awaits_header M n ≡ false → line_limit < length u → mem 10 u ≡ false → Goal (so_far n edits constraints) u
    open-line n edits constraints [] o k m = absurd (omega arith)
    open-line n edits constraints (d ∷ u) o k m =
        let a = begins d u [] m in
        let b = begins d u q m in
        let x : lines (d ∷ u) ≡ ((d ∷ u) ++ a.more) ∷ a.later = ap lines (sym (append-nil (d ∷ u))) ∙ a.is in
        record {
          number = 1;
          line = suc n;
          first = ap (read_from M (so_far n edits constraints)) x ∙ too_long n edits constraints ((d ∷ u) ++ a.more) a.later o (omega (arith, length-append (d ∷ u) a.more));
          second = ap (read_from M (so_far n edits constraints)) b.is ∙ too_long n edits constraints ((d ∷ u) ++ b.more) b.later o (omega (arith, length-append (d ∷ u) b.more));
        }

    -- the lines of a text whose first line ends
    module _ (s : List ℕ) (f : FirstEnd s) where
      lines-here : lines s ≡ (f.inner ++ (10 ∷ [])) ∷ lines f.rest
      lines-here = ap lines f.is ∙ ended-line f.inner f.rest f.plain

      lines-more : lines (s ++ q) ≡ (f.inner ++ (10 ∷ [])) ∷ lines (f.rest ++ q)
      lines-more = ap (λ (t : List ℕ). lines (t ++ q)) f.is ∙ ap lines (append_assoc (f.inner ++ (10 ∷ [])) f.rest q) ∙ ended-line f.inner (f.rest ++ q) f.plain

      size-is : length s ≡ length (f.inner ++ (10 ∷ [])) + length f.rest
      size-is = ap length f.is ∙ length-append (f.inner ++ (10 ∷ [])) f.rest

    -- one line more
    decided-line : (n : ℕ) (edits constraints : Rows) (l : List ℕ) (ls ms : List (List ℕ)) → awaits_header M n ≡ false
        → (line_fault M edits constraints (M.line.reads l) ≡ 0 → Decided (read_from M (with_line (M.line.reads l) (so_far n edits constraints)) ls) (read_from M (with_line (M.line.reads l) (so_far n edits constraints)) ms))
        → Decided (read_from M (so_far n edits constraints) (l ∷ ls)) (read_from M (so_far n edits constraints) (l ∷ ms))
    decided-line n edits constraints l ls ms o more =
        by (eqb (line_fault M edits constraints (M.line.reads l)) 0)
        (λ (e : eqb (line_fault M edits constraints (M.line.reads l)) 0 ≡ true).
        let z : line_fault M edits constraints (M.line.reads l) ≡ 0 = eqb-true _ 0 e in
        rw (line-taken M n edits constraints l ls o z, line-taken M n edits constraints l ms o z) (more z))
        (λ (e : eqb (line_fault M edits constraints (M.line.reads l)) 0 ≡ false).
        let z = eqb-false (line_fault M edits constraints (M.line.reads l)) 0 e in
        record { number = line_fault M edits constraints (M.line.reads l); line = suc n; first = line-refused M n edits constraints l ls o z; second = line-refused M n edits constraints l ms o z })

    -- fewer than 640 rows are read, and enough bytes are left for the others
    decide : (fuel : ℕ) (s : List ℕ) (n : ℕ) (edits constraints : Rows) → awaits_header M n ≡ false → length s ≤ fuel → ReadWell edits constraints → 64641 ≤ length s + 101 * (length edits + length constraints) → Goal (so_far n edits constraints) s
    decide zero s n edits constraints o small g h = absurd (omega (arith, W.few edits constraints g.faultless))
    decide (suc fuel) s n edits constraints o small g h =
        ⊎_elim
        (λ (f : FirstEnd s).
        let l = f.inner ++ (10 ∷ []) in
        rw (lines-here s f, lines-more s f)
        (decided-line n edits constraints l (lines f.rest) (lines (f.rest ++ q)) o
        (λ z. next-rows n edits constraints l g z
        (λ es cs e w c. rw e
        (decide fuel f.rest (suc n) es cs (past-header M n) (omega (arith, size-is s f, length-append f.inner (10 ∷ []))) w (omega (arith, size-is s f, line-short edits constraints l z)))))))
        (λ (m : mem 10 s ≡ false). open-line n edits constraints s o (omega (arith, W.few edits constraints g.faultless)) m)
        (first-end s)

    -- the first line is no header
    no_header : (l : List ℕ) (ls : List (List ℕ)) → ltb 0 (length M.header) ≡ true → same l M.header ≡ false → read_from M text_begun (l ∷ ls) ≡ Refused 1 1
    unfolding read_from line_fed
    no_header l ls e s = rw (e, s) refl

    a_header : (l : List ℕ) (ls : List (List ℕ)) → ltb 0 (length M.header) ≡ true → same l M.header ≡ true → read_from M text_begun (l ∷ ls) ≡ read_from M (so_far 1 [] []) ls
    unfolding read_from line_fed
    a_header l ls e s = rw (e, s) refl

    longer : (l : List ℕ) → line_limit < length l → same l M.header ≡ false
    longer l h =
        by (same l M.header)
        (λ (s : same l M.header ≡ true). absurd (omega (arith, W.header-short, ap length (same-eq l M.header s))))
        (λ (s : same l M.header ≡ false). s)

    decide-headed : (s : List ℕ) → ltb 0 (length M.header) ≡ true → 64742 ≤ length s → Goal text_begun s
    decide-headed [] e h = absurd (omega arith)
    decide-headed (d ∷ u) e h =
        ⊎_elim
        (λ (f : FirstEnd (d ∷ u)).
        let l = f.inner ++ (10 ∷ []) in
        rw (lines-here (d ∷ u) f, lines-more (d ∷ u) f)
        (by (same l M.header)
        (λ (s : same l M.header ≡ true).
        rw (a_header l (lines f.rest) e s, a_header l (lines (f.rest ++ q)) e s)
        (decide (length f.rest) f.rest 1 [] [] (past-header M 0) (omega arith) well-none (omega (arith, size-is (d ∷ u) f, W.header-short, ap length (same-eq l M.header s)))))
        (λ (s : same l M.header ≡ false). record { number = 1; line = 1; first = no_header l (lines f.rest) e s; second = no_header l (lines (f.rest ++ q)) e s })))
        (λ (m : mem 10 (d ∷ u) ≡ false).
        let a = begins d u [] m in
        let b = begins d u q m in
        let x : lines (d ∷ u) ≡ ((d ∷ u) ++ a.more) ∷ a.later = ap lines (sym (append-nil (d ∷ u))) ∙ a.is in
        record {
          number = 1;
          line = 1;
          first = ap (read_from M text_begun) x ∙ no_header ((d ∷ u) ++ a.more) a.later e (longer ((d ∷ u) ++ a.more) (omega (arith, length-append (d ∷ u) a.more)));
          second = ap (read_from M text_begun) b.is ∙ no_header ((d ∷ u) ++ b.more) b.later e (longer ((d ∷ u) ++ b.more) (omega (arith, length-append (d ∷ u) b.more)));
        })
        (first-end (d ∷ u))

  -- Of a text of so many bytes what follows changes nothing: of 64,641 where the manner has no header.
  pub first-bytes-decide-in : (first rest : List ℕ) → 64641 + line_limit * header_lines M ≤ length first → read_in M (first ++ rest) ≡ read_in M first
  unfolding read_in
  first-bytes-decide-in first rest h =
      by (ltb 0 (length M.header))
      (λ (e : ltb 0 (length M.header) ≡ true).
      let d = decide-headed rest first e (let n : 64641 + line_limit * 1 ≤ length first = rw e at h in omega arith) in
      rw (d.first, d.second))
      (λ (e : ltb 0 (length M.header) ≡ false).
      let d = decide rest (length first) first 0 [] [] (rw e refl) (omega arith) well-none (let n : 64641 + line_limit * 0 ≤ length first = rw e at h in omega arith) in
      rw (d.first, d.second))

  -- The number of a refusal is at most that of any line, or 8, and its line at most 640 beside the header.
  module _ (most : ℕ) (a : 8 ≤ most) (b : (edits constraints : Rows) (l : List ℕ) → line_fault M edits constraints (M.line.reads l) ≤ most) (k m : ℕ) where
    finished-small : (n : ℕ) (edits constraints : Rows) → ReadWell edits constraints → n ≤ header_lines M + (length edits + length constraints) → text_finished M (so_far n edits constraints) ≡ Refused k m → (k ≤ most) × (m ≤ header_lines M + 640)
    unfolding text_finished
    finished-small n edits constraints g c h =
        by (awaits_header M n)
        (λ (o : awaits_header M n ≡ true). let u : Refused 1 1 ≡ Refused k m = rw o at h in let x : 1 ≡ k = cc in let y : 1 ≡ m = cc in (omega arith, omega arith))
        (λ (o : awaits_header M n ≡ false).
        by (sound (M.gathered edits constraints))
        (λ (s : sound (M.gathered edits constraints) ≡ true). let u : Accepted (M.gathered edits constraints) ≡ Refused k m = rw (o, s) at h in let z : ◌≡◌ {A = ℕ} 0 1 = cc in absurd (omega arith))
        (λ (s : sound (M.gathered edits constraints) ≡ false).
        let u : Refused 8 n ≡ Refused k m = rw (o, s) at h in
        let x : 8 ≡ k = cc in
        let y : n ≡ m = cc in
        (omega arith, omega (arith, W.few edits constraints g.faultless))))

    refused-small : (ls : List (List ℕ)) (n : ℕ) (edits constraints : Rows) → awaits_header M n ≡ false → ReadWell edits constraints → n ≤ header_lines M + (length edits + length constraints)
        → read_from M (so_far n edits constraints) ls ≡ Refused k m → (k ≤ most) × (m ≤ header_lines M + 640)
    unfolding read_from
    refused-small [] n edits constraints o g c h = finished-small n edits constraints g c h
    refused-small (l ∷ ls) n edits constraints o g c h =
        by (eqb (line_fault M edits constraints (M.line.reads l)) 0)
        (λ (e : eqb (line_fault M edits constraints (M.line.reads l)) 0 ≡ true).
        let z : line_fault M edits constraints (M.line.reads l) ≡ 0 = eqb-true _ 0 e in
        next-rows n edits constraints l g z
        (λ es cs y w v. refused-small ls (suc n) es cs (past-header M n) w (omega (arith, v, c)) (sym (ap (λ (x : ReadSoFar). read_from M x ls) y) ∙ sym (line-taken M n edits constraints l ls o z) ∙ h)))
        (λ (e : eqb (line_fault M edits constraints (M.line.reads l)) 0 ≡ false).
        let u : Refused (line_fault M edits constraints (M.line.reads l)) (suc n) ≡ Refused k m = sym (line-refused M n edits constraints l ls o (eqb-false _ 0 e)) ∙ h in
        let x : line_fault M edits constraints (M.line.reads l) ≡ k = cc in
        let y : suc n ≡ m = cc in
        (omega (arith, b edits constraints l, x), omega (arith, W.few edits constraints g.faultless, y, c)))

    headed-small : (ls : List (List ℕ)) → ltb 0 (length M.header) ≡ true → read_from M text_begun ls ≡ Refused k m → (k ≤ most) × (m ≤ header_lines M + 640)
    unfolding read_from line_fed
    headed-small [] e h = finished-small 0 [] [] well-none (omega arith) h
    headed-small (l ∷ ls) e h =
        by (same l M.header)
        (λ (s : same l M.header ≡ true). refused-small ls 1 [] [] (past-header M 0) well-none (rw e (omega arith)) (rw (e, s) at h))
        (λ (s : same l M.header ≡ false). let u : Refused 1 1 ≡ Refused k m = rw (e, s) at h in let x : 1 ≡ k = cc in let y : 1 ≡ m = cc in (omega arith, omega arith))

    pub refusal-small-in : (text : List ℕ) → read_in M text ≡ Refused k m → (k ≤ most) × (m ≤ header_lines M + 640)
    unfolding read_in
    refusal-small-in text h =
        by (ltb 0 (length M.header))
        (λ (e : ltb 0 (length M.header) ≡ true). headed-small (lines text) e h)
        (λ (e : ltb 0 (length M.header) ≡ false). refused-small (lines text) 0 [] [] (rw e refl) well-none (omega arith) h)

-- Of an old text of at least 64,641 bytes what follows changes nothing.
pub first-bytes-decide : (first rest : List ℕ) → 64641 ≤ length first → read_text (first ++ rest) ≡ read_text first
first-bytes-decide first rest h = first-bytes-decide-in old_manner old-lawful first rest h

-- The number of a refusal is at most 13, and its line at most 640.
said-small : (edits constraints : Rows) (said : Result Line Refusal) (l : List ℕ) → SaidBack old_manner.line said l → line_fault old_manner edits constraints said ≤ 13
unfolding line_fault edit_fault constraint_fault
said-small edits constraints (Ok (Edit row)) l f =
    orelse-small 13 (row_fault edit_kind [] edits row) (13 given ltb 0 (length constraints) orelse 0) (row-fault-small 13 (omega arith) edit_kind [] edits row (omega arith)) (orelse-small 13 (13 given ltb 0 (length constraints)) 0 (given-small 13 13 (ltb 0 (length constraints)) (omega arith)) (omega arith))
said-small edits constraints (Ok (Constraint row)) l f = row-fault-small 13 (omega arith) (constraint_kind (names_of edits) false) [] constraints row (further-small 13 (omega arith) (names_of edits) false row)
said-small edits constraints (Err refusal) l f = omega arith

pub refusal-small : (text : List ℕ) (k m : ℕ) → read_text text ≡ Refused k m → (k ≤ 13) × (m ≤ 640)
refusal-small text k m h =
    refusal-small-in old_manner old-lawful 13 (omega arith)
    (λ edits constraints l. said-small edits constraints (old_manner.line.reads l) l (old-lawful.lawful-lines.said-back l)) k m text h

-- The report's lines, out of the judgement of a record. Assumes nothing.
use mathlib.Core.Path.{◌≡◌, refl, ap, sym, ◌∙◌}
use mathlib.Core.List.{List, [], ◌∷◌, map}
use Prim.Native.Nat.{ℕ, zero, suc, ◌+◌, ◌≤◌, ◌<◌}
use native.Mathlib.Omega.{arith}
use lib.ListN.{length, get_or, take, set, length-map}
use lib.Seq.{take_all}
use Rattle.std.proofs.lemmas.List.{get_or_past, take_more, take_more_set}
use Rattle.record.specs.declared.Edit.{Edit}
use Rattle.record.specs.Record.{Record, name_of, written, names}
use Rattle.record.specs.Schedule.{schedule}
use Rattle.record.specs.Judgement.{must, never, settled}
use Rattle.graph.specs.links.Marks.{name_at, place_in}
use Rattle.graph.proofs.links.Marks.{values-at, marks-at}
use Rattle.judgement.specs.declared.Judged.{Judged}
use Rattle.judgement.specs.Judged.{judged_of}
use Rattle.text_forms.specs.Form.{fill}
use Rattle.text_report.specs.declared.ReportLine.{ReportLine}
use Rattle.text_report.specs.Report.{report_form, report_numbers}
use Rattle.text_report.specs.Rows.{line_text, no_line, line_at, report_lines}

pub lines-length : (j : Judged) (index : ℕ) (l : List Edit) → length (report_lines j index l) ≡ length l
unfolding report_lines
lines-length j index [] = refl
lines-length j index (e ∷ l) = ap suc (lines-length j (suc index) l)

line-from : (j : Judged) (index : ℕ) (l : List Edit) (i : ℕ) (d : Edit) (o : ReportLine) → i < length l → get_or (report_lines j index l) i o ≡ line_at (get_or l i d).name j (index + i)
unfolding report_lines
line-from j index [] i d o h = absurd (omega (arith, h))
line-from j index (e ∷ l) zero d o h = let z : index + 0 ≡ index = omega arith in rw z
line-from j index (e ∷ l) (suc i) d o h = let z : suc index + i ≡ index + suc i = omega arith in line-from j (suc index) l i d o (omega (arith, h)) ∙ rw z

-- place by place
module _ (j : Judged) (l : List Edit) (i : ℕ) where
  pub line-there : (e : Edit) → i < length l → e ≡ get_or l i e → line_at e.name j (i + 1) ≡ get_or (report_lines j 1 l) i no_line
  line-there e h q =
      let z : 1 + i ≡ i + 1 = omega arith in
      let n : e.name ≡ (get_or l i e).name = ap (λ (x : Edit). x.name) q in
      rw n (rw z at (sym (line-from j 1 l i e no_line h)))

  pub line-past : length l ≤ i → no_line ≡ get_or (report_lines j 1 l) i no_line
  line-past h = sym (get_or_past (report_lines j 1 l) i no_line (omega (arith, lines-length j 1 l)))

  module _ (lines : List ReportLine) where
    -- one line more
    pub lines-more : {line : ReportLine} → i < length l → i < length lines → line ≡ get_or (report_lines j 1 l) i no_line → take i lines ≡ take i (report_lines j 1 l)
        → take (i + 1) (set lines i line) ≡ take (i + 1) (report_lines j 1 l)
    lines-more {line} h k e f = rw (take_more_set lines i line k, take_more (report_lines j 1 l) i no_line (omega (arith, h, lines-length j 1 l)), e, f) refl

    -- a line for each edit
    pub lines-whole : i ≡ length l → take i lines ≡ take i (report_lines j 1 l) → take (length l) lines ≡ report_lines j 1 l
    lines-whole e f = rw (← e) (f ∙ take_all i (report_lines j 1 l) (omega (arith, e, lines-length j 1 l)))

-- the edits of the record from an index on
lines-from : (R : Record) (index : ℕ) (l : List Edit) → ((i : ℕ) → i < length l → (name_at R (index + i) ≡ get_or (map name_of l) i 0) × (index + i < length (names R))) → map line_text (report_lines (judged_of R) index l) ≡ map (fill report_form) (map (report_numbers R) (map name_of l))
unfolding report_lines report_numbers judged_of
lines-from R index [] f = refl
lines-from R index (e ∷ l) f =
    let z : index + 0 ≡ index = omega arith in
    let h : index < length (names R) = rw z at (f 0 (omega arith)).1 in
    let n : name_at R index ≡ e.name = rw z at (f 0 (omega arith)).0 in
    let a = marks-at R (must R) index h in
    let b = marks-at R (never R) index h in
    let c = marks-at R (settled R) index h in
    let d = values-at R (place_in (schedule R [])) index h in
    let rest : map line_text (report_lines (judged_of R) (suc index) l) ≡ map (fill report_form) (map (report_numbers R) (map name_of l)) = lines-from R (suc index) l (λ i k. let y : suc index + i ≡ index + suc i = omega arith in rw y (f (suc i) (omega arith))) in
    rw (a, b, c, d, n, rest)

pub lines-are : (R : Record) → map line_text (report_lines (judged_of R) 1 R.edits) ≡ map (fill report_form) (map (report_numbers R) (written R))
unfolding written names
lines-are R =
    lines-from R 1 R.edits
    (λ i k. let z : 1 + i ≡ suc i = omega arith in rw z (refl, (let w : length (map name_of R.edits) ≡ length R.edits = length-map R.edits name_of in omega arith)))

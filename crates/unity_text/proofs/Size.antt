-- What is printed of a text takes at most 1,024 bytes, so that an output of this size is never too short: its numbers fit 64 bits. Assumes nothing.
use mathlib.Core.Path.{◌≡◌, refl, ap, sym, ◌∙◌}
use mathlib.Core.Bool.{Bool, true, false, not}
use mathlib.Core.List.{List, [], ◌∷◌, ◌++◌, map}
use Prim.Native.Nat.{ℕ, zero, suc, ◌≤◌, ◌<◌, ◌^◌}
use native.Mathlib.Omega.{arith}
use borrow.Author.Tests.{eqb-true, eqb-false, ltb-true, not-false}
use lib.Dec.{eqb, leb}
use lib.ListN.{length, get_or, length-append}
use Rattle.std.specs.Prelude.{Ok}
use Rattle.lists.specs.Lists.{all}
use Rattle.lists.proofs.Lists.{by}
use Rattle.lists.proofs.Front.{filter-length}
use Rattle.record_rows.proofs.grounds.Small.{given-small, first_small}
use Rattle.fraction.specs.Fraction.{sum_of, mean}
use Rattle.fraction.specs.Bounded.{limit64, fits64}
use Rattle.text_forms.specs.Spelling.{bytes}
use Rattle.text_forms.proofs.Lawful.{decimal-lawful}
use Rattle.text_forms.proofs.Forms.{fill-wide}
use Rattle.text_lines.specs.Lines.{lines}
use Rattle.text_writer.specs.Placed.{placing}
use Rattle.text_writer.proofs.Placing.{start-enough}
use Rattle.text_report.specs.Report.{refusal_form, refusal_line}
use Rattle.unity_table.specs.declared.Weights.{Weights}
use Rattle.unity_table.specs.Unity.{election_limit, is_empty, is_won, shares, out_of_range, too_wide, weights_fault, Fault, is_last, deciding_fault, count_by, summary}
use Rattle.unity_table.specs.Summed.{running}
use Rattle.unity_table.proofs.Faults.{stays}
use Rattle.unity_table.proofs.Sums.{passed}
use Rattle.unity_table.proofs.Ends.{late-row, fault-stays, last-decides, mean-small}
use Rattle.unity_text.specs.Text.{unity_form, in_form, weights_in, weights_line_fault, text_unity, unity_numbers, printed_unity}
use Rattle.unity_text.proofs.Faults.{line_stays, line-good, formed-faults}

-- numbers of 64 bits
abbrev AllFit : List ℕ → Type 0
AllFit [] = Unit
AllFit (n ∷ ns) = (n < 2 ^ 64) × AllFit ns

fit_at : (ns : List ℕ) → AllFit ns → (k : ℕ) → get_or ns k 0 < 2 ^ 64
fit_at [] h k = omega arith
fit_at (n ∷ ns) h zero = h.0
fit_at (n ∷ ns) h (suc k) = fit_at ns h.1 k

-- The numbers of a table without fault.
module _ (l : List Weights) (z : (deciding_fault weights_fault [] l).number ≡ 0) where
  rows_run : (running l).number ≡ 0
  rows_run =
      by (eqb (running l).number 0)
      (λ e. eqb-true (running l).number 0 e)
      (λ e. sym (ap (λ (f : Fault). f.number) (stays weights_fault fault-stays [] l (eqb-false (running l).number 0 e))) ∙ z)

  mean-fits : fits64 (mean (shares l)).denominator ≡ true
  mean-fits =
      by (late-row l)
      (λ (e : late-row l ≡ true). absurd (let q : (deciding_fault weights_fault [] l).number ≡ 17 = ap (λ (f : Fault). f.number) (last-decides l rows_run) ∙ rw e in omega arith))
      (λ (e : late-row l ≡ false). not-false _ e)

  numbers_fit : AllFit (unity_numbers (summary l))
  unfolding summary count_by
  numbers_fit =
      let p = passed l rows_run in
      let few = p.few in
      let s = mean-small (shares l) in
      let n = ltb-true (sum_of (shares l)).numerator limit64 p.numerator in
      let d = ltb-true (mean (shares l)).denominator limit64 mean-fits in
      let a = p.least.numerator in
      let b = p.least.denominator in
      let e = p.greatest.numerator in
      let f = p.greatest.denominator in
      let w = filter-length is_won l in
      let v = filter-length is_empty l in
      (omega arith, (omega arith, (omega arith, (omega arith, (omega arith, (omega arith, (omega arith, (omega arith, tt))))))))

-- The first fault of a text.
line-early : (above : List (List ℕ)) (line : List ℕ) (last : Bool) → weights_line_fault above line last ≡ 0 → weights_line_fault above line false ≡ 0
line-early above line last z =
    by (eqb (weights_line_fault above line false) 0)
    (λ e. eqb-true (weights_line_fault above line false) 0 e)
    (λ e. sym (line_stays above line last (eqb-false (weights_line_fault above line false) 0 e)) ∙ z)

accepted-formed : (above l : List (List ℕ)) → (deciding_fault weights_line_fault above l).number ≡ 0 → all in_form l ≡ true
unfolding deciding_fault all
accepted-formed above [] z = refl
accepted-formed above (x ∷ l) z =
    let n = weights_line_fault above x (is_last l) in
    by (eqb n 0)
    (λ (e : eqb n 0 ≡ true). rw (line-good above x (line-early above x (is_last l) (eqb-true n 0 e))).formed (accepted-formed (above ++ (x ∷ [])) l (rw e at z)))
    (λ (e : eqb n 0 ≡ false). absurd (eqb-false n 0 e (rw e at z)))

row_small : (above : List Weights) (a : Weights) (last : Bool) → weights_fault above a last ≤ 17
unfolding weights_fault
row_small above a last =
    first_small 17 2 (out_of_range a) _ (omega arith)
    (first_small 17 3 (leb election_limit (length above)) _ (omega arith) (given-small 17 17 (too_wide (above ++ (a ∷ [])) last) (omega arith)))

line_small : (above : List (List ℕ)) (line : List ℕ) (last : Bool) → weights_line_fault above line last ≤ 17
unfolding weights_line_fault
line_small above line last = first_small 17 1 (not (in_form line)) _ (omega arith) (row_small (map weights_in above) (weights_in line) last)

record SmallFault (f : Fault) : Type 0 where
  number : f.number ≤ 17
  row : f.row ≤ 201

fault-small : (above l : List (List ℕ)) → length above ≤ election_limit → SmallFault (deciding_fault weights_line_fault above l)
unfolding deciding_fault
fault-small above [] h = record { number = omega arith; row = omega arith }
fault-small above (x ∷ l) h =
    let n = weights_line_fault above x (is_last l) in
    by (eqb n 0)
    (λ (e : eqb n 0 ≡ true).
    let p = (line-good above x (line-early above x (is_last l) (eqb-true n 0 e))).place in
    rw e (fault-small (above ++ (x ∷ [])) l (let a = length-append above (x ∷ []) in omega arith)))
    (λ (e : eqb n 0 ≡ false). rw e (record { number = line_small above x (is_last l); row = omega arith }))

-- What is printed.
unity-size : length unity_form ≤ 47
unfolding unity_form bytes
unity-size = omega arith

refusal-size : length refusal_form ≤ 17
unfolding refusal_form bytes
refusal-size = omega arith

pub unity-printed-size : (text : List ℕ) → length (printed_unity (text_unity text)) ≤ 1024
unfolding text_unity printed_unity summary refusal_line
unity-printed-size text =
    let f = deciding_fault weights_line_fault [] (lines text) in
    let l = map weights_in (lines text) in
    by (eqb f.number 0)
    (λ (e : eqb f.number 0 ≡ true).
    let z = eqb-true f.number 0 e in
    let q = formed-faults [] (lines text) (accepted-formed [] (lines text) z) in
    let w = numbers_fit l (sym (ap (λ (x : Fault). x.number) q) ∙ z) in
    let a = fill-wide decimal-lawful unity_form (unity_numbers (summary l)) (fit_at (unity_numbers (summary l)) w) in
    rw e (omega (arith, a, unity-size)))
    (λ (e : eqb f.number 0 ≡ false).
    let s = fault-small [] (lines text) (omega arith) in
    let a = fill-wide decimal-lawful refusal_form (f.number ∷ f.row ∷ []) (fit_at (f.number ∷ f.row ∷ []) (omega (arith, s.number), (omega (arith, s.row), tt))) in
    rw (e, e) (omega (arith, a, refusal-size)))

-- An output of 1,024 bytes takes what is printed of any text.
pub unity-printed-fits : (text out : List ℕ) → 1024 ≤ length out → placing (printed_unity (text_unity text)) 0 out ≡ Ok (length (printed_unity (text_unity text)))
unity-printed-fits text out h = start-enough (printed_unity (text_unity text)) out 1024 (unity-printed-size text) h

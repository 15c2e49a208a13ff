-- The first 20,301 bytes of a text decide: a text without fault has at most 200 lines of at most 101 bytes, so a longer one has its fault at or before its line
-- 201, and what follows changes nothing. Assumes nothing.
use mathlib.Core.Path.{◌≡◌, refl, ap, sym, ◌∙◌}
use mathlib.Core.Bool.{true, false}
use mathlib.Core.Logic.{◌≢◌, ⊎_elim}
use mathlib.Core.List.{List, [], ◌∷◌, ◌++◌, append_assoc, append-nil}
use mathlib.Core.Option.{Option, none, some}
use Prim.Native.Nat.{ℕ, zero, suc, ◌+◌, ◌*◌, ◌≤◌, ◌<◌}
use native.Mathlib.Omega.{arith}
use borrow.Author.Tests.{eqb-true, eqb-false, ltb-false}
use lib.Dec.{eqb, ltb}
use lib.ListN.{length, length-append}
use Rattle.text_lines.specs.Line.{line_limit}
use Rattle.lists.specs.Lists.{all, mem}
use Rattle.lists.proofs.Lists.{by, clash, mem-snoc}
use Rattle.text_forms.specs.Spelling.{bytes}
use Rattle.text_forms.specs.Form.{is_mark, taken}
use Rattle.text_forms.proofs.Lawful.{decimal-lawful}
use Rattle.text_forms.proofs.Forms.{wordless, spelled-all, fill-taken, one_line, fill-ended}
use Rattle.text_lines.specs.Lines.{joined, lines}
use Rattle.text_lines.proofs.Ends.{ended-line}
use Rattle.text.proofs.Limit.{FirstEnd, first-end, begins}
use Rattle.unity_table.specs.Unity.{election_limit, Fault, is_last, deciding_fault}
use Rattle.unity_text.specs.Text.{weights_form, numbers_in, is_some, in_form, weights_line_fault, text_unity}
use Rattle.unity_text.proofs.Faults.{unformed-fault, line_stays, line-good, fault-here, fault-later, unity-text-refused}

some-by : {P : Type 0} (o : Option (List ℕ)) → is_some o ≡ true → ((ns : List ℕ) → o ≡ some ns → P) → P
some-by none h k = clash h refl
some-by (some ns) h k = k ns refl

-- a line in form has at most 101 bytes
record FormedLine (line : List ℕ) : Type 0 where
  numbers : List ℕ
  is : taken weights_form line ≡ some numbers
  short : length line ≤ line_limit

formed-line : (line : List ℕ) → in_form line ≡ true → FormedLine line
unfolding numbers_in
formed-line line =
    by (ltb line_limit (length line))
    (λ (e : ltb line_limit (length line) ≡ true). rw e (λ h. clash h refl))
    (λ (e : ltb line_limit (length line) ≡ false). rw e (λ h. some-by (taken weights_form line) h (λ ns q. record { numbers = ns; is = q; short = ltb-false line_limit (length line) e })))

-- and ends
pub wordless-form : wordless weights_form ≡ true
unfolding weights_form bytes all is_mark
wordless-form = refl

pub one_line_lem : one_line weights_form ≡ true
unfolding weights_form bytes one_line
one_line_lem = refl

no_end : (line : List ℕ) → mem 10 line ≡ false → in_form line ≡ false
no_end line m =
    by (in_form line)
    (λ (h : in_form line ≡ true).
    let f = formed-line line h in
    let e = fill-ended decimal-lawful weights_form f.numbers one_line_lem in
    let q : line ≡ e.inner ++ (10 ∷ []) = (fill-taken decimal-lawful weights_form line f.numbers f.is).1 (spelled-all weights_form f.numbers wordless-form) ∙ e.is in
    clash (mem-snoc 10 e.inner) (rw q at m))
    (λ (h : in_form line ≡ false). h)

-- 101 bytes without an end, whatever follows on the line
open-unformed : (s more : List ℕ) → line_limit ≤ length s → mem 10 s ≡ false → in_form (s ++ more) ≡ false
open-unformed s [] k m = rw (append-nil s) (no_end s m)
open-unformed s (c ∷ more) k m =
    by (in_form (s ++ (c ∷ more)))
    (λ (h : in_form (s ++ (c ∷ more)) ≡ true). absurd (let f = (formed-line (s ++ (c ∷ more)) h).short in let a = length-append s (c ∷ more) in omega arith))
    (λ (h : in_form (s ++ (c ∷ more)) ≡ false). h)

-- a text that is not empty has lines
joined-some : (c : ℕ) (ls : List (List ℕ)) → is_last (joined c ls) ≡ false
joined-some c [] = refl
joined-some c (l ∷ ls) = refl

some-lines : (s : List ℕ) → 0 < length s → is_last (lines s) ≡ false
unfolding lines
some-lines [] h = absurd (omega arith)
some-lines (c ∷ s) h = by (eqb c 10) (λ (e : eqb c 10 ≡ true). rw e) (λ (e : eqb c 10 ≡ false). rw e (joined-some c (lines s)))

-- two first faults are the same
record Decided (a b : Fault) : Type 0 where
  fault : Fault
  some : fault.number ≢ 0
  first : a ≡ fault
  second : b ≡ fault

module _ (q : List ℕ) where
  -- what was to be shown of a text below these lines
  abbrev Goal : List (List ℕ) → List ℕ → Type 0
  Goal above s = Decided (deciding_fault weights_line_fault above (lines s)) (deciding_fault weights_line_fault above (lines (s ++ q)))

  open-line : (above : List (List ℕ)) (s : List ℕ) → line_limit ≤ length s → mem 10 s ≡ false → Goal above s
  open-line above [] k m = absurd (omega arith)
  open-line above (c ∷ s) k m =
      let a = begins c s [] m in
      let b = begins c s q m in
      let x : lines (c ∷ s) ≡ ((c ∷ s) ++ a.more) ∷ a.later = ap lines (sym (append-nil (c ∷ s))) ∙ a.is in
      let one : (more : List ℕ) (later : List (List ℕ)) → deciding_fault weights_line_fault above (((c ∷ s) ++ more) ∷ later) ≡ record { number = 1; row = suc (length above) } =
      λ more later. fault-here above ((c ∷ s) ++ more) later 1 (unformed-fault above ((c ∷ s) ++ more) (is_last later) (open-unformed (c ∷ s) more k m)) (λ z. omega arith) in
      record {
        fault = record { number = 1; row = suc (length above) };
        some = λ z. omega arith;
        first = ap (deciding_fault weights_line_fault above) x ∙ one a.more a.later;
        second = ap (deciding_fault weights_line_fault above) b.is ∙ one b.more b.later;
      }

  -- at most 200 lines are read, and enough bytes are left for the others
  decide : (fuel : ℕ) (s : List ℕ) (above : List (List ℕ)) → length s ≤ fuel → length above ≤ election_limit → 20301 ≤ length s + 101 * length above → Goal above s
  decide zero s above small few h = absurd (omega arith)
  decide (suc fuel) s above small few h =
      ⊎_elim
      (λ (f : FirstEnd s).
      let l = f.inner ++ (10 ∷ []) in
      let w : length s ≡ length l + length f.rest = ap length f.is ∙ length-append l f.rest in
      let one : length l ≡ length f.inner + 1 = length-append f.inner (10 ∷ []) in
      let a : lines s ≡ l ∷ lines f.rest = ap lines f.is ∙ ended-line f.inner f.rest f.plain in
      let b : lines (s ++ q) ≡ l ∷ lines (f.rest ++ q) = ap (λ (t : List ℕ). lines (t ++ q)) f.is ∙ ap lines (append_assoc l f.rest q) ∙ ended-line f.inner (f.rest ++ q) f.plain in
      let number = weights_line_fault above l false in
      by (eqb number 0)
      (λ (t : eqb number 0 ≡ true).
      let z = eqb-true number 0 t in
      let g = line-good above l z in
      let k = (formed-line l g.formed).short in
      let p = g.place in
      let n : length (above ++ (l ∷ [])) ≡ length above + 1 = length-append above (l ∷ []) in
      let y = length-append f.rest q in
      let d = decide fuel f.rest (above ++ (l ∷ [])) (omega arith) (omega arith) (omega arith) in
      record {
        fault = d.fault;
        some = d.some;
        first = ap (deciding_fault weights_line_fault above) a ∙ fault-later above l (lines f.rest) (ap (weights_line_fault above l) (some-lines f.rest (omega arith)) ∙ z) ∙ d.first;
        second = ap (deciding_fault weights_line_fault above) b ∙ fault-later above l (lines (f.rest ++ q)) (ap (weights_line_fault above l) (some-lines (f.rest ++ q) (omega arith)) ∙ z) ∙ d.second;
      })
      (λ (t : eqb number 0 ≡ false).
      let n = eqb-false number 0 t in
      record {
        fault = record { number = number; row = suc (length above) };
        some = n;
        first = ap (deciding_fault weights_line_fault above) a ∙ fault-here above l (lines f.rest) number (line_stays above l (is_last (lines f.rest)) n) n;
        second = ap (deciding_fault weights_line_fault above) b ∙ fault-here above l (lines (f.rest ++ q)) number (line_stays above l (is_last (lines (f.rest ++ q))) n) n;
      }))
      (λ (m : mem 10 s ≡ false). open-line above s (omega arith) m)
      (first-end s)

-- Of a text of at least 20,301 bytes what follows changes nothing.
pub unity-first-bytes-decide : (first rest : List ℕ) → 20301 ≤ length first → text_unity (first ++ rest) ≡ text_unity first
unity-first-bytes-decide first rest h =
    let d = decide rest (length first) first [] (omega arith) (omega arith) (omega arith) in
    unity-text-refused (first ++ rest) d.fault d.second d.some ∙ sym (unity-text-refused first d.fault d.first d.some)

-- The faults of lines and those of their answers. Assumes nothing.
use mathlib.Core.Path.{◌≡◌, refl, ap, sym, ◌∙◌}
use mathlib.Core.Bool.{Bool, true, false, cond, ◌&&◌}
use mathlib.Core.Logic.{◌≢◌}
use mathlib.Core.List.{List, [], ◌∷◌, ◌++◌, map, map-append}
use Prim.Native.Nat.{ℕ, suc, ◌<◌}
use native.Mathlib.Omega.{arith}
use borrow.Author.Tests.{eqb-false, ne_eqb}
use lib.Dec.{eqb}
use lib.ListN.{length, length-map}
use Rattle.lists.specs.Lists.{all}
use Rattle.lists.proofs.Lists.{by, and_l, and_r}
use Rattle.lists.proofs.Front.{all_append}
use Rattle.text_lines.specs.Lines.{lines}
use Rattle.unity_table.specs.declared.Weights.{Weights}
use Rattle.unity_table.specs.Unity.{election_limit, weights_fault, Fault, is_last, deciding_fault, refused_unity, unity_of}
use Rattle.unity_table.specs.Summed.{running_fault, running}
use Rattle.unity_table.proofs.Faults.{fault_at}
use Rattle.unity_table.proofs.Sums.{passes, running-row}
use Rattle.unity_table.proofs.Ends.{fault-stays}
use Rattle.unity_table.proofs.Exactly.{faulty-is, none-faulty-is}
use Rattle.unity_text.specs.Text.{in_form, weights_in, weights_line_fault, text_unity}

-- one line
module _ (above : List (List ℕ)) (line : List ℕ) where
  pub formed-fault : (last : Bool) → in_form line ≡ true → weights_line_fault above line last ≡ weights_fault (map weights_in above) (weights_in line) last
  unfolding weights_line_fault
  formed-fault last h = rw h

  pub unformed-fault : (last : Bool) → in_form line ≡ false → weights_line_fault above line last ≡ 1
  unfolding weights_line_fault
  unformed-fault last h = rw h

  row_stays : (a : Weights) (last : Bool) → weights_fault (map weights_in above) a false ≢ 0 → weights_fault (map weights_in above) a last ≡ weights_fault (map weights_in above) a false
  row_stays a true n = fault-stays (map weights_in above) a n
  row_stays a false n = refl

  -- a fault stays, whether or not another line follows
  pub line_stays : (last : Bool) → weights_line_fault above line false ≢ 0 → weights_line_fault above line last ≡ weights_line_fault above line false
  line_stays last n =
      by (in_form line)
      (λ (h : in_form line ≡ true).
      let f = formed-fault false h in
      formed-fault last h ∙ row_stays (weights_in line) last (λ z. n (f ∙ z)) ∙ sym f)
      (λ (h : in_form line ≡ false). unformed-fault last h ∙ sym (unformed-fault false h))

  -- a line without fault is in form, and no more than 199 stand above it
  pub record GoodLine : Type 0 where
    pub formed : in_form line ≡ true
    pub place : length above < election_limit

  pub line-good : weights_line_fault above line false ≡ 0 → GoodLine
  line-good z =
      by (in_form line)
      (λ (h : in_form line ≡ true).
      let f = (passes (map weights_in above) (weights_in line) (sym (formed-fault false h) ∙ z)).place in
      record { formed = h; place = let m = length-map above weights_in in omega arith })
      (λ (h : in_form line ≡ false). absurd (let q = unformed-fault false h in omega arith))

-- the first of some lines
module _ (above : List (List ℕ)) (line : List ℕ) (rest : List (List ℕ)) where
  pub fault-here : (number : ℕ) → weights_line_fault above line (is_last rest) ≡ number → number ≢ 0 → deciding_fault weights_line_fault above (line ∷ rest) ≡ record { number = number; row = suc (length above) }
  unfolding deciding_fault
  fault-here number f n = rw (f, ne_eqb number 0 n)

  pub fault-later : weights_line_fault above line (is_last rest) ≡ 0 → deciding_fault weights_line_fault above (line ∷ rest) ≡ deciding_fault weights_line_fault (above ++ (line ∷ [])) rest
  unfolding deciding_fault
  fault-later f = rw f

abbrev fault_or : ℕ → ℕ → Fault → Fault
fault_or number row later = cond (eqb number 0) later (record { number = number; row = suc row })

last-mapped : (l : List (List ℕ)) → is_last l ≡ is_last (map weights_in l)
last-mapped [] = refl
last-mapped (x ∷ l) = refl

-- Where all lines are in form their faults are those of the answers.
pub formed-faults : (above l : List (List ℕ)) → all in_form l ≡ true → deciding_fault weights_line_fault above l ≡ deciding_fault weights_fault (map weights_in above) (map weights_in l)
unfolding deciding_fault all
formed-faults above [] h = refl
formed-faults above (x ∷ l) h =
    let n : weights_line_fault above x (is_last l) ≡ weights_fault (map weights_in above) (weights_in x) (is_last (map weights_in l)) = formed-fault above x (is_last l) (and_l (in_form x) (all in_form l) h) ∙ ap (weights_fault (map weights_in above) (weights_in x)) (last-mapped l) in
    let r : length above ≡ length (map weights_in above) = sym (length-map above weights_in) in
    let t : deciding_fault weights_line_fault (above ++ (x ∷ [])) l ≡ deciding_fault weights_fault (map weights_in above ++ (weights_in x ∷ [])) (map weights_in l) =
    formed-faults (above ++ (x ∷ [])) l (and_r (in_form x) (all in_form l) h) ∙ ap (λ (m : List Weights). deciding_fault weights_fault m (map weights_in l)) (map-append weights_in above (x ∷ [])) in
    λ i. fault_or (n i) (r i) (t i)

-- lines in form whose answers run without fault, and a line after them
module _ (done : List (List ℕ)) (x : List ℕ) (rest : List (List ℕ)) (h : all in_form done ≡ true) (z : (running (map weights_in done)).number ≡ 0) where
  good-before : (p : List (List ℕ)) (y : List ℕ) (q : List (List ℕ)) → done ≡ p ++ (y ∷ q) → weights_line_fault p y false ≡ 0
  unfolding all
  good-before p y q e =
      let k : (all in_form p && (in_form y && all in_form q)) ≡ true = sym (all_append in_form p (y ∷ q)) ∙ sym (ap (all in_form) e) ∙ h in
      formed-fault p y false (and_l (in_form y) (all in_form q) (and_r (all in_form p) (in_form y && all in_form q) k))
      ∙ (none-faulty-is running_fault (map weights_in done)).0 z (map weights_in p) (weights_in y) (map weights_in q) (ap (map weights_in) e ∙ map-append weights_in p (y ∷ q))

  stops : (number : ℕ) → weights_line_fault done x (is_last rest) ≡ number → number ≢ 0 → deciding_fault weights_line_fault [] (done ++ (x ∷ rest)) ≡ record { number = number; row = suc (length done) }
  stops number f n =
      faulty-is weights_line_fault (done ++ (x ∷ rest)) (record { number = number; row = suc (length done) })
      (record { above = done; faulty = x; rest = rest; split = refl; before = good-before; number_is = sym f; some = n; row_is = refl })

  pub stops-unformed : in_form x ≡ false → deciding_fault weights_line_fault [] (done ++ (x ∷ rest)) ≡ record { number = 1; row = suc (length done) }
  stops-unformed u = stops 1 (unformed-fault done x (is_last rest) u) (λ q. omega arith)

  -- a faulty answer, whatever follows
  pub stops-faulty : in_form x ≡ true → (running (map weights_in done ++ (weights_in x ∷ []))).number ≢ 0 → deciding_fault weights_line_fault [] (done ++ (x ∷ rest)) ≡ running (map weights_in done ++ (weights_in x ∷ []))
  stops-faulty u n =
      let l = map weights_in done in
      let number = weights_fault l (weights_in x) false in
      let q : running (l ++ (weights_in x ∷ [])) ≡ fault_at number (length l) = running-row l (weights_in x) z in
      by (eqb number 0)
      (λ (e : eqb number 0 ≡ true). absurd (n (ap (λ (f : Fault). f.number) q ∙ rw e)))
      (λ (e : eqb number 0 ≡ false).
      let m = eqb-false number 0 e in
      let f = formed-fault done x false u in
      stops number (line_stays done x (is_last rest) (λ y. m (sym f ∙ y)) ∙ f) m ∙ sym (q ∙ rw (e, length-map done weights_in)))

-- a text whose first fault is known
pub unity-text-refused : (text : List ℕ) (f : Fault) → deciding_fault weights_line_fault [] (lines text) ≡ f → f.number ≢ 0 → text_unity text ≡ refused_unity f
unfolding text_unity
unity-text-refused text f e n = rw (e, ne_eqb f.number 0 n)

-- Where all lines are in form, a text comes to what its answers come to.
pub text-formed : (text : List ℕ) (l : List (List ℕ)) → lines text ≡ l → all in_form l ≡ true → text_unity text ≡ unity_of (map weights_in l)
unfolding text_unity unity_of
text-formed text l e h = rw (e, formed-faults [] l h)

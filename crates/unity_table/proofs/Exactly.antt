-- Refused exactly where a row has a ground, with that of the first one: nothing that fits is refused, nothing that does not fit passes. Assumes nothing.
use mathlib.Core.Path.{◌≡◌, refl, ap, sym, ◌∙◌}
use mathlib.Core.Bool.{Bool, true, false}
use mathlib.Core.Logic.{◌≢◌, ◌↔◌}
use mathlib.Core.List.{List, [], ◌∷◌, ◌++◌, append_assoc, append-nil}
use Prim.Native.Nat.{ℕ, suc, ◌<◌}
use native.Mathlib.Omega.{arith}
use borrow.Author.Tests.{eqb-true, eqb-false, eq-eqb, ne_eqb, leb-false, lt-leb}
use lib.Dec.{eqb, leb}
use lib.ListN.{length, length-append}
use Rattle.lists.proofs.Lists.{by}
use Rattle.record_rows.specs.grounds.Ground.{◌given◌, ◌orelse◌}
use Rattle.unity_table.specs.declared.Weights.{Weights}
use Rattle.unity_table.specs.Unity.{election_limit, out_of_range, too_wide, weights_fault, Fault, is_last, deciding_fault, NoneFaulty, FirstFaulty, summary, refused_unity, unity_by, unity_of}
use Rattle.unity_table.proofs.Faults.{no_fault}

module _ {A : Type 0} (f : List A → A → Bool → ℕ) where
  -- of the rows that follow some others
  abbrev NoneFaultyAfter : List A → List A → Type 0
  NoneFaultyAfter above l = (p : List A) (x : A) (q : List A) → l ≡ p ++ (x ∷ q) → f (above ++ p) x (is_last q) ≡ 0

  not_last : (p : List A) (x : A) (q : List A) → is_last (p ++ (x ∷ q)) ≡ false
  not_last [] x q = refl
  not_last (y ∷ p) x q = refl

  -- a row is the first one, or stands among those after it
  first-or-later : (above : List A) (y : A) (l p : List A) (x : A) (q : List A) → y ∷ l ≡ p ++ (x ∷ q) → f above y (is_last l) ≡ 0 → NoneFaultyAfter (above ++ (y ∷ [])) l → f (above ++ p) x (is_last q) ≡ 0
  first-or-later above y l [] x q e z h =
      let a : y ≡ x = cc in
      let b : l ≡ q = cc in
      rw (append-nil above, ← a, ← b) z
  first-or-later above y l (w ∷ p) x q e z h =
      let a : y ≡ w = cc in
      let b : l ≡ p ++ (x ∷ q) = cc in
      let r = h p x q b in
      rw (← a, ← append_assoc above (y ∷ []) p) r

  none_after : (above l : List A) → (deciding_fault f above l).number ≡ 0 → NoneFaultyAfter above l
  unfolding deciding_fault
  none_after above [] z p x q e = absurd (let n = ap length e ∙ length-append p (x ∷ q) in omega arith)
  none_after above (y ∷ l) z p x q e =
      by (eqb (f above y (is_last l)) 0)
      (λ (k : eqb (f above y (is_last l)) 0 ≡ true). first-or-later above y l p x q e (eqb-true (f above y (is_last l)) 0 k) (none_after (above ++ (y ∷ [])) l (rw k at z)))
      (λ (k : eqb (f above y (is_last l)) 0 ≡ false). absurd (eqb-false (f above y (is_last l)) 0 k (rw k at z)))

  after_none : (above l : List A) → NoneFaultyAfter above l → deciding_fault f above l ≡ no_fault
  unfolding deciding_fault
  after_none above [] h = refl
  after_none above (y ∷ l) h =
      let z : f above y (is_last l) ≡ 0 = rw append-nil at (h [] y l refl) in
      rw (eq-eqb (f above y (is_last l)) 0 z) (after_none (above ++ (y ∷ [])) l (λ p x q e. rw append_assoc (h (y ∷ p) x q (ap (λ (m : List A). y ∷ m) e))))

  -- a faulty row after rows without fault
  fault-after : (above p : List A) (x : A) (q : List A) → ((s : List A) (y : A) (t : List A) → p ≡ s ++ (y ∷ t) → f (above ++ s) y false ≡ 0) → f (above ++ p) x (is_last q) ≢ 0
      → deciding_fault f above (p ++ (x ∷ q)) ≡ record { number = f (above ++ p) x (is_last q); row = suc (length (above ++ p)) }
  unfolding deciding_fault
  fault-after above [] x q h n =
      let m : f above x (is_last q) ≢ 0 = rw append-nil at n in
      rw (append-nil above, ne_eqb (f above x (is_last q)) 0 m)
  fault-after above (y ∷ p) x q h n =
      let z : f above y false ≡ 0 = rw append-nil at (h [] y p refl) in
      rw (not_last p x q, eq-eqb (f above y false) 0 z, ← append_assoc above (y ∷ []) p)
      (fault-after (above ++ (y ∷ [])) p x q (λ s w t e. rw append_assoc (h (y ∷ s) w t (ap (λ (m : List A). y ∷ m) e))) (rw append_assoc n))

  pub faulty-is : (l : List A) (fault : Fault) → FirstFaulty f l fault → deciding_fault f [] l ≡ fault
  faulty-is l fault h =
      let n = h.number_is in
      let m : f h.above h.faulty (is_last h.rest) ≢ 0 = λ z. h.some (n ∙ z) in
      ap (deciding_fault f []) h.split ∙ fault-after [] h.above h.faulty h.rest h.before m ∙ (λ i. record { number = sym n i; row = sym h.row_is i })

  -- the first faulty row of some that follow others
  record FirstAfter (above l : List A) (fault : Fault) : Type 0 where
    passed : List A
    faulty : A
    rest : List A
    split : l ≡ passed ++ (faulty ∷ rest)
    before : (s : List A) (y : A) (t : List A) → passed ≡ s ++ (y ∷ t) → f (above ++ s) y false ≡ 0
    number_is : fault.number ≡ f (above ++ passed) faulty (is_last rest)
    row_is : fault.row ≡ suc (length (above ++ passed))

  no-split : (y : A) (s t : List A) → [] ≡ s ++ (y ∷ t) → ⊥
  no-split y s t e = let n = ap length e ∙ length-append s (y ∷ t) in omega arith

  before_more : (above : List A) (y : A) (p : List A) → f above y false ≡ 0 → ((s : List A) (x : A) (t : List A) → p ≡ s ++ (x ∷ t) → f ((above ++ (y ∷ [])) ++ s) x false ≡ 0)
      → (s : List A) (x : A) (t : List A) → y ∷ p ≡ s ++ (x ∷ t) → f (above ++ s) x false ≡ 0
  before_more above y p z h [] x t e = let a : y ≡ x = cc in rw (append-nil above, ← a) z
  before_more above y p z h (w ∷ s) x t e =
      let a : y ≡ w = cc in
      let b : p ≡ s ++ (x ∷ t) = cc in
      rw (← a, ← append_assoc above (y ∷ []) s) (h s x t b)

  first-after : (above l : List A) → (deciding_fault f above l).number ≢ 0 → FirstAfter above l (deciding_fault f above l)
  unfolding deciding_fault
  first-after above [] n = absurd (n refl)
  first-after above (y ∷ l) n =
      by (eqb (f above y (is_last l)) 0)
      (λ (k : eqb (f above y (is_last l)) 0 ≡ true).
      let r = first-after (above ++ (y ∷ [])) l (rw k at n) in
      let last : is_last l ≡ false = ap is_last r.split ∙ not_last r.passed r.faulty r.rest in
      let z : f above y false ≡ 0 = rw last at (eqb-true (f above y (is_last l)) 0 k) in
      rw k (record {
        passed = y ∷ r.passed;
        faulty = r.faulty;
        rest = r.rest;
        split = ap (λ (m : List A). y ∷ m) r.split;
        before = before_more above y r.passed z r.before;
        number_is = r.number_is ∙ ap (λ (m : List A). f m r.faulty (is_last r.rest)) (append_assoc above (y ∷ []) r.passed);
        row_is = r.row_is ∙ ap (λ (m : List A). suc (length m)) (append_assoc above (y ∷ []) r.passed);
      }))
      (λ (k : eqb (f above y (is_last l)) 0 ≡ false).
      rw k (record {
        passed = [];
        faulty = y;
        rest = l;
        split = refl;
        before = λ s x t e. absurd (no-split x s t e);
        number_is = ap (λ (m : List A). f m y (is_last l)) (sym (append-nil above));
        row_is = ap (λ (m : List A). suc (length m)) (sym (append-nil above));
      }))

  -- The computed fault is the first one, and there is none exactly if no row has one.
  pub faulty-found : (l : List A) → (deciding_fault f [] l).number ≢ 0 → FirstFaulty f l (deciding_fault f [] l)
  faulty-found l n =
      let r = first-after [] l n in
      record { above = r.passed; faulty = r.faulty; rest = r.rest; split = r.split; before = r.before; number_is = r.number_is; some = n; row_is = r.row_is }

  pub none-faulty-is : (l : List A) → ((deciding_fault f [] l).number ≡ 0) ↔ NoneFaulty f l
  none-faulty-is l = (none_after [] l, λ h. ap (λ (x : Fault). x.number) (after_none [] l h))

-- A table is accepted exactly if each of its rows is in range, has a place, and its numbers fit; and refused with the number and the row of the first that is not.
pub accepted-exactly : (l : List Weights) → ((unity_of l).number ≡ 0) ↔ NoneFaulty weights_fault l
unfolding unity_of summary
accepted-exactly l = (λ z. (none-faulty-is weights_fault l).0 (number_of (deciding_fault weights_fault [] l) z), λ h. back ((none-faulty-is weights_fault l).1 h))
  where
    number_of : (g : Fault) → (unity_by g l).number ≡ 0 → g.number ≡ 0
    number_of g z = by (eqb g.number 0) (λ (e : eqb g.number 0 ≡ true). eqb-true g.number 0 e) (λ (e : eqb g.number 0 ≡ false). rw e at z)

    back : (deciding_fault weights_fault [] l).number ≡ 0 → (unity_by (deciding_fault weights_fault [] l) l).number ≡ 0
    back z = rw (eq-eqb (deciding_fault weights_fault [] l).number 0 z)

pub refused-exactly : (l : List Weights) (fault : Fault) → FirstFaulty weights_fault l fault → unity_of l ≡ refused_unity fault
unfolding unity_of
refused-exactly l fault h = ap (λ (g : Fault). unity_by g l) (faulty-is weights_fault l fault h) ∙ rw (ne_eqb fault.number 0 h.some)

-- 17 is the number of a row exactly if it is in range, has a place, and something of the rows down to it does not fit.
pub record Wide (above : List Weights) (a : Weights) (last : Bool) : Type 0 where
  pub range : out_of_range a ≡ false
  pub place : length above < election_limit
  pub wide : too_wide (above ++ (a ∷ [])) last ≡ true

pub wide-exactly : (above : List Weights) (a : Weights) (last : Bool) → (weights_fault above a last ≡ 17) ↔ Wide above a last
unfolding weights_fault
wide-exactly above a last = (there, λ h. rw (h.range, lt-leb election_limit (length above) h.place, h.wide))
  where
    there : (2 given out_of_range a orelse 3 given leb election_limit (length above) orelse 17 given too_wide (above ++ (a ∷ [])) last) ≡ 17 → Wide above a last
    there h =
        by (out_of_range a)
        (λ (r : out_of_range a ≡ true). absurd (let z : 2 ≡ 17 = rw r at h in omega arith))
        (λ (r : out_of_range a ≡ false).
        by (leb election_limit (length above))
        (λ (p : leb election_limit (length above) ≡ true). absurd (let z : 3 ≡ 17 = rw (r, p) at h in omega arith))
        (λ (p : leb election_limit (length above) ≡ false).
        by (too_wide (above ++ (a ∷ [])) last)
        (λ (w : too_wide (above ++ (a ∷ [])) last ≡ true). record { range = r; place = leb-false election_limit (length above) p; wide = w })
        (λ (w : too_wide (above ++ (a ∷ [])) last ≡ false). absurd (let z : 0 ≡ 17 = rw (r, p, w) at h in omega arith))))

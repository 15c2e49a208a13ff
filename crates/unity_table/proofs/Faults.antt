-- The first faulty row: one row more, what rows without fault keep, and the row that turns out to be the last. Assumes nothing.
use mathlib.Core.Path.{◌≡◌, refl, ◌∙◌}
use mathlib.Core.Bool.{Bool, true, false, cond}
use mathlib.Core.Logic.{◌≢◌}
use mathlib.Core.List.{List, [], ◌∷◌, ◌++◌, append_assoc, append-nil}
use Prim.Native.Nat.{ℕ, suc}
use native.Mathlib.Omega.{arith}
use borrow.Author.Tests.{eqb-true, eqb-false}
use lib.Dec.{eqb}
use lib.ListN.{length, length-append}
use Rattle.lists.proofs.Lists.{by}
use Rattle.record_rows.specs.grounds.Ground.{◌given◌}
use Rattle.unity_table.specs.Unity.{Fault, deciding_fault}

abbrev pub no_fault : Fault
no_fault = record { number = 0; row = 0 }

-- the fault of a row below n others
abbrev pub fault_at : ℕ → ℕ → Fault
fault_at number n = cond (eqb number 0) no_fault (record { number = number; row = suc n })

-- rows of which none is taken for the last
module _ {A : Type 0} (g : List A → A → ℕ) where
  abbrev pub running_by : List A → List A → Fault
  running_by above l = deciding_fault (λ b x last. g b x) above l

  -- one row more
  pub running_more : (above l : List A) (x : A) → running_by above (l ++ (x ∷ [])) ≡ cond (eqb (running_by above l).number 0) (fault_at (g (above ++ l) x) (length (above ++ l))) (running_by above l)
  unfolding deciding_fault
  running_more above [] x = rw (append-nil above)
  running_more above (y ∷ l) x =
      by (eqb (g above y) 0)
      (λ (e : eqb (g above y) 0 ≡ true). rw (e, ← append_assoc above (y ∷ []) l) (running_more (above ++ (y ∷ [])) l x))
      (λ (e : eqb (g above y) 0 ≡ false). rw (e, e))

  -- what each row without fault keeps holds of all of them
  pub running-keeps : (P : List A → Type 0) → ((above : List A) (x : A) → P above → g above x ≡ 0 → P (above ++ (x ∷ []))) → (above l : List A) → P above → (running_by above l).number ≡ 0 → P (above ++ l)
  unfolding deciding_fault
  running-keeps P step above [] p z = rw (append-nil above) p
  running-keeps P step above (x ∷ l) p z =
      by (eqb (g above x) 0)
      (λ (e : eqb (g above x) 0 ≡ true).
      let h = running-keeps P step (above ++ (x ∷ [])) l (step above x p (eqb-true (g above x) 0 e)) (rw e at z) in
      rw append_assoc at h)
      (λ (e : eqb (g above x) 0 ≡ false). absurd (eqb-false (g above x) 0 e (rw e at z)))

-- Rows of which the last one is known: `late` is what is asked of all rows once it is there, with number 17.
module _ {A : Type 0} (f : List A → A → Bool → ℕ) where
  abbrev early : List A → A → ℕ
  early above x = f above x false

  -- a fault of a row that is not known to be the last stays
  pub stays : ((above : List A) (x : A) → f above x false ≢ 0 → f above x true ≡ f above x false) → (above l : List A) → (running_by early above l).number ≢ 0 → deciding_fault f above l ≡ running_by early above l
  unfolding deciding_fault
  stays same above [] n = refl
  stays same above (x ∷ []) n =
      by (eqb (f above x false) 0)
      (λ (e : eqb (f above x false) 0 ≡ true). absurd (rw e at n refl))
      (λ (e : eqb (f above x false) 0 ≡ false). rw (same above x (eqb-false (f above x false) 0 e)))
  stays same above (x ∷ (y ∷ l)) n =
      by (eqb (f above x false) 0)
      (λ (e : eqb (f above x false) 0 ≡ true). rw e (stays same (above ++ (x ∷ [])) (y ∷ l) (rw e at n)))
      (λ (e : eqb (f above x false) 0 ≡ false). rw e)

  module _ (late : List A → Bool) (at_last : (above : List A) (x : A) → f above x false ≡ 0 → f above x true ≡ 17 given late (above ++ (x ∷ []))) where
    ends_some : (above : List A) (x : A) (l : List A) → (running_by early above (x ∷ l)).number ≡ 0
        → deciding_fault f above (x ∷ l) ≡ cond (late (above ++ (x ∷ l))) (record { number = 17; row = length (above ++ (x ∷ l)) }) no_fault
    unfolding deciding_fault
    ends_some above x [] z =
        by (eqb (f above x false) 0)
        (λ (e : eqb (f above x false) 0 ≡ true).
        let s : length (above ++ (x ∷ [])) ≡ suc (length above) = length-append above (x ∷ []) ∙ omega arith in
        by (late (above ++ (x ∷ [])))
        (λ (t : late (above ++ (x ∷ [])) ≡ true).
        let q : f above x true ≡ 17 = rw t at (at_last above x (eqb-true (f above x false) 0 e)) in
        rw (t, q, s))
        (λ (t : late (above ++ (x ∷ [])) ≡ false).
        let q : f above x true ≡ 0 = rw t at (at_last above x (eqb-true (f above x false) 0 e)) in
        rw (t, q)))
        (λ (e : eqb (f above x false) 0 ≡ false). absurd (eqb-false (f above x false) 0 e (rw e at z)))
    ends_some above x (y ∷ l) z =
        by (eqb (f above x false) 0)
        (λ (e : eqb (f above x false) 0 ≡ true). rw (e, ← append_assoc above (x ∷ []) (y ∷ l)) (ends_some (above ++ (x ∷ [])) y l (rw e at z)))
        (λ (e : eqb (f above x false) 0 ≡ false). absurd (eqb-false (f above x false) 0 e (rw e at z)))

    -- no row has another fault: the last row decides
    pub table-ends : late [] ≡ false → (l : List A) → (running_by early [] l).number ≡ 0 → deciding_fault f [] l ≡ cond (late l) (record { number = 17; row = length l }) no_fault
    unfolding deciding_fault
    table-ends none [] z = rw none
    table-ends none (x ∷ l) z = ends_some [] x l z

-- The grounds of an explanation, one by one, as the code tells them; and its line without one. Assumes nothing.
use Rattle.std.specs.Prelude.{◌≡◌, true, false, List, ℕ, ◌+◌, ◌≤◌, ◌<◌, leb, eqb, length, Option, Some, None, option_map, Result}
use mathlib.Core.Path.{refl, ◌∙◌}
use native.Mathlib.Omega.{arith}
use borrow.Author.Tests.{ne_eqb, le-leb, lt-leb}
use Rattle.lists.proofs.Lists.{by}
use Rattle.record_rows.specs.grounds.Ground.{Rows}
use Rattle.record_tables.specs.Table.{decoded}
use Rattle.refusals.specs.declared.Refusal.{Refusal}
use Rattle.refusals.specs.Numbers.{number, Gives}
use Rattle.refusals.proofs.Numbers.{number-positive}
use Rattle.text_writer.specs.Placed.{fits_at, placed, placing}
use Rattle.judgement.specs.lent_edit.Asked.{lent_edit_fault}
use Rattle.reasons.specs.Reasons.{Reason}
use Rattle.reasons.specs.Given.{reason_of}
use Rattle.reasons_lent.specs.declared.Reason as declared
use Rattle.reasons_lent.specs.Asked.{reason_told}
use Rattle.text_reasons.specs.ReasonLine.{reason_line, line_if_given, given_fault, given_out, explained, explained_fault, explained_out}

-- what is told of a reason, or of none
module _ (e at : ℕ) (out : List ℕ) where
  -- the number that is told, and the output as it was
  abbrev pub Refusing : Option Reason → ℕ → Type 0
  Refusing given n = (n ≡ given_fault e given at out) × (out ≡ given_out e given at out)

  -- a number that is not 0 leaves the output
  refused-left : (given : Option Reason) (n : ℕ) → (n ≡ 0 → ⊥) → n ≡ given_fault e given at out → Refusing given n
  unfolding given_out
  refused-left given n h p = let z : eqb (given_fault e given at out) 0 ≡ false = ne_eqb (given_fault e given at out) 0 (λ y. h (p ∙ y)) in (p, rw z refl)

  pub past-refused : (given : Option Reason) → length out < at → Refusing given 12
  unfolding given_fault
  past-refused given h =
      let f : fits_at (line_if_given e given) at out ≡ false = lt-leb _ _ (omega arith) in refused-left given 12 (λ y. omega arith) (rw f refl)

  pub none-refused : {given : Option declared.Reason} → given ≡ None → at ≤ length out → Refusing (option_map reason_told given) 15
  unfolding given_fault
  none-refused n h =
      let f : leb (at + 0) (length out) ≡ true = le-leb (at + 0) (length out) (omega arith) in
      rw n (refused-left None 15 (λ y. omega arith) (rw f refl))

  pub some-given : {given : Option declared.Reason} {r : declared.Reason} → given ≡ Some r → {w : Result ℕ Refusal} {after : List ℕ}
      → w ≡ placing (reason_line e (reason_told r)) at out → after ≡ placed (reason_line e (reason_told r)) at out
      → Gives (given_fault e (option_map reason_told given) at out) (at + length (line_if_given e (option_map reason_told given))) w
      × (after ≡ given_out e (option_map reason_told given) at out)
  unfolding given_fault given_out placing placed
  some-given {r} s {w} {after} p q =
      by (fits_at (reason_line e (reason_told r)) at out)
      (λ (f : fits_at (reason_line e (reason_told r)) at out ≡ true). rw (p, q, s, f) ((refl, refl), refl))
      (λ (f : fits_at (reason_line e (reason_told r)) at out ≡ false). rw (p, q, s, f) ((refl, tt), refl))

-- what is told of an edit of lent tables
module _ (es cs : Rows) (e at : ℕ) (out : List ℕ) where
  pub asked-refused : (r : Refusal) → number r ≡ lent_edit_fault es cs e
      → (number r ≡ explained_fault es cs e at out) × (out ≡ explained_out es cs e at out)
  unfolding explained_fault explained_out
  asked-refused r q =
      let z : eqb (lent_edit_fault es cs e) 0 ≡ false = ne_eqb (lent_edit_fault es cs e) 0 (λ y. number-positive r (q ∙ y)) in (rw z q, rw (z, z) refl)

  pub explained-given : 0 ≡ lent_edit_fault es cs e → {given : Option Reason} → given ≡ reason_of (decoded es cs) e → (w : Result ℕ Refusal) {after : List ℕ}
      → Gives (given_fault e given at out) (at + length (line_if_given e given)) w → after ≡ given_out e given at out
      → Gives (explained_fault es cs e at out) (at + length (explained es cs e)) w × (after ≡ explained_out es cs e at out)
  unfolding explained_fault explained_out given_out
  explained-given k g w p q = rw (← k, ← g) (p, q)

-- A text that is written to a part of an output, where it fits: at a place, and at the start. Assumes nothing.
use mathlib.Core.Path.{◌≡◌, ap, sym, ◌∙◌}
use mathlib.Core.Bool.{Bool, true, false}
use mathlib.Core.List.{List, ◌++◌}
use Prim.Native.Nat.{ℕ, ◌+◌, ◌-◌, ◌≤◌, ◌<◌}
use native.Mathlib.Nat.{zero-add}
use native.Mathlib.Omega.{arith}
use borrow.Author.Tests.{le-leb, lt-leb, leb-true, leb-false}
use lib.Dec.{leb}
use lib.ListN.{length, take, drop, length-take, length-drop, length-append}
use Rattle.lists.proofs.Lists.{by}
use Rattle.text_forms.specs.decimal.Written.{Written}
use Rattle.text_forms.proofs.decimal.Parts.{part-written}
use Rattle.std.specs.Prelude.{Ok, Err}
use Rattle.refusals.specs.declared.Refusal.TheVariants.{NoRoom}
use Rattle.text_writer.specs.Placed.{placed, placing}
use Rattle.std.proofs.lemmas.List.{take_rest}

module _ (text out : List ℕ) where
  module _ (at : ℕ) where
    pub not-placed : length out < at + length text → (Err NoRoom ≡ placing text at out) × (out ≡ placed text at out)
    unfolding placing placed
    not-placed h = let f : leb (at + length text) (length out) ≡ false = lt-leb (at + length text) (length out) h in (rw f, rw f)

    is-placed : at + length text ≤ length out → {end : ℕ} {after : List ℕ} → end ≡ at + length text → after ≡ take at out ++ (text ++ drop (at + length text) out)
        → (Ok end ≡ placing text at out) × (after ≡ placed text at out)
    unfolding placing placed
    is-placed h e p = let f : leb (at + length text) (length out) ≡ true = le-leb (at + length text) (length out) h in (rw (f, e), rw f p)

    module _ (near : at ≤ length out) {fits : Bool} (e : fits ≡ leb (length text) (length out - at)) where
      pub no_room : fits ≡ false → (Err NoRoom ≡ placing text at out) × (out ≡ placed text at out)
      no_room h = not-placed (omega (arith, leb-false (length text) (length out - at) (sym e ∙ h)))

      module _ (h : fits ≡ true) where
        enough : at + length text ≤ length out
        enough = omega (arith, leb-true (length text) (length out - at) (sym e ∙ h))

        pub has_room : length text ≤ length (take (length out - at) (drop at out))
        has_room = rw (take_rest out at, length-drop) (omega (arith, enough))

        module _ {r : ℕ} {after : List ℕ} (w : Written text (take (length out - at) (drop at out)) r after) where
          pub written-there : (Ok (at + r) ≡ placing text at out) × (take at out ++ (after ++ drop (length out - at) (drop at out)) ≡ placed text at out)
          written-there = is-placed enough (ap (λ (k : ℕ). at + k) w.0) (part-written at out after text enough w.1)

  -- at the start
  pub start-enough : (n : ℕ) → length text ≤ n → n ≤ length out → placing text 0 out ≡ Ok (length text)
  unfolding placing
  start-enough n p q = rw (le-leb (0 + length text) (length out) (omega arith), zero-add)

-- what is written ends inside the output
pub placed-inside : (text out : List ℕ) (at : ℕ) {end : ℕ} {after : List ℕ} → Ok end ≡ placing text at out → after ≡ placed text at out → end ≤ length after
unfolding placing placed
placed-inside text out at {end} {after} p r =
    by (leb (at + length text) (length out))
    (λ (h : leb (at + length text) (length out) ≡ true).
    let e : end ≡ at + length text = (let q = rw h at p in (cc)) in
    let n : at + length text ≤ length out = leb-true (at + length text) (length out) h in
    let q : length after ≡ length (take at out) + length (text ++ drop (at + length text) out) = ap length (rw h at r) ∙ length-append (take at out) (text ++ drop (at + length text) out) in
    omega (arith, length-take at out, length-append text (drop (at + length text) out)))
    (λ (h : leb (at + length text) (length out) ≡ false). let q = rw h at p in let z : ⊥ = cc in absurd z)

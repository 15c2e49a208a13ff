-- The counts, and the lines after them. Assumes nothing.
use mathlib.Core.List.{List, ◌++◌}
use Prim.Native.Nat.{ℕ, ◌+◌, ◌-◌, ◌≤◌}
use native.Mathlib.Omega.{arith}
use lib.ListN.{length, take, drop, length-append}
use Rattle.text_forms.specs.decimal.Written.{Written}
use Rattle.text_forms.proofs.decimal.Parts.{inside, written_both}

-- two texts that fit, one after the other: where the second begins and ends
module _ (s t before : List ℕ) (h : length (s ++ t) ≤ length before) where
  pub first_fits : length s ≤ length before
  first_fits = omega (arith, length-append s t)

  module _ {at : ℕ} {out : List ℕ} (u : Written s before at out) where
    pub first-inside : at ≤ length out
    first-inside = inside s before u first_fits

    pub both-inside : {r : ℕ} {after : List ℕ} → Written t (take (length out - at) (drop at out)) r after → at + r ≤ length before
    both-inside v = omega (arith, (written_both s before u t h v).0)

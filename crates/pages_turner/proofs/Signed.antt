-- The open page and a signed number added, and the page that the sum comes to. Assumes nothing.
use Prim.Native.Nat.{ℕ, ◌^◌, ◌<◌, ◌≤◌}
use mathlib.Core.Path.{◌≡◌, refl, ◌∙◌}
use mathlib.Core.Bool.{cond}
use native.Mathlib.Omega.{arith}
use lib.IntN.{ℤ, pos, negsuc, ◌+ℤ◌}
use lib.Dec.{leb}
use lib.Signed.{◌≤ℤ◌}
use mir.Syntax.{w32, w64}
use mir.Val.{SFits, to_z, of_z}
use mir.Facts.{sfits_widen, to_z-of_z}
use borrow.Author.Tests.{le-leb, lt-leb}
use Rattle.std.specs.Prelude.{Option, Some, None, SomeIff, option_and_then}
use Rattle.std.specs.Int.{FitsUnsigned}
use Rattle.std.specs.Int.RustNames.{unsigned_abs}
use Rattle.std.proofs.lemmas.Int.{ints}
use Rattle.pages_turner.specs.Turn.{landed, turned, turn_of}

-- the definition without the bound, for a page that can be open
pub turn_is : (opened last : ℕ) (by : ℤ) → opened ≤ 127 → turn_of opened last by ≡ turned opened last by
unfolding turn_of
turn_is opened last by h = rw (le-leb _ _ h)

-- a page of the pages
abbrev pub within : ℕ → ℕ → Option ℕ
within last page = cond (leb page last) (Some page) None

module _ (last : ℕ) (small : last < 2 ^ 64) where
  on : (z : ℤ) (page : ℕ) → pos 0 ≤ℤ z → page ≡ unsigned_abs z → landed last z ≡ within last page
  unfolding landed
  on (pos n) page h e = rw e
  on (negsuc n) page h e = absurd (omega (arith, ints))

  past : (z : ℤ) → (FitsUnsigned w64 z → ⊥) → landed last z ≡ None
  unfolding landed
  past (pos n) h = let k : n ≤ last → ⊥ = λ q. h (omega (arith, ints), omega (arith, ints)) in
      let l : last < n = omega arith in rw (lt-leb _ _ l)
  past (negsuc n) h = refl

  pub landed-is : (z : ℤ) (r : Option ℕ) → SomeIff r (FitsUnsigned w64 z) (unsigned_abs z) → landed last z ≡ option_and_then (within last) r
  landed-is z (Some page) h = on z page h.0.0 h.1
  landed-is z None h = past z h

-- the sum as the code holds it, of a page that can be open
pub step-is : (opened last : ℕ) (by : ℤ) (r : Option ℕ) → opened ≤ 127 → last < 2 ^ 64 → SFits w32 by
    → SomeIff r (FitsUnsigned w64 (pos opened +ℤ to_z w64 (of_z w64 (to_z w32 (of_z w32 by))))) (unsigned_abs (pos opened +ℤ to_z w64 (of_z w64 (to_z w32 (of_z w32 by)))))
    → turn_of opened last by ≡ option_and_then (within last) r
unfolding turned
step-is opened last by r h l f e =
    let w = sfits_widen {w = w32} {w' = w64} tt f in
    turn_is opened last by h ∙ landed-is last l (pos opened +ℤ by) r (rw (to_z-of_z f, to_z-of_z w) at e)

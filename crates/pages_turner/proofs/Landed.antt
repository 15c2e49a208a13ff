-- Where a turn lands: never past the last page; on the open page for 0; nowhere for a number as far as either end of i32.
use Prim.Native.Nat.{ℕ, suc, ◌+◌, ◌<◌, ◌≤◌}
use mathlib.Core.Path.{◌≡◌, refl, ap}
use mathlib.Core.Bool.{Bool, true, false, cond}
use native.Mathlib.Omega.{arith}
use native.Mathlib.Nat.{add-zero}
use lib.IntN.{ℤ, pos, negsuc, ◌+ℤ◌}
use lib.Dec.{leb}
use borrow.Author.Tests.{leb-true, le-leb, lt-leb, lt-ltb}
use Rattle.std.specs.Prelude.{Some, None}
use Rattle.pages_turner.specs.Turn.{landed, turned}

-- an accepted page is within the pages and is the sum
pub record Lands (last page : ℕ) (sum : ℤ) : Type 0 where
  pub within : page ≤ last
  pub is : sum ≡ pos page

module _ (last page : ℕ) where
  picked : (t : Bool) (p : ℕ) → leb p last ≡ t → cond t (Some p) None ≡ Some page → Lands last page (pos p)
  picked true p h e = let a : p ≡ page = cc in record { within = rw a at (leb-true p last h); is = ap pos a }
  picked false p h e = let z : ◌≡◌ {A = ℕ} 0 1 = cc in absurd (omega arith)

  lands : (z : ℤ) → landed last z ≡ Some page → Lands last page z
  unfolding landed
  lands (pos p) e = picked (leb p last) p refl e
  lands (negsuc p) e = let z : ◌≡◌ {A = ℕ} 0 1 = cc in absurd (omega arith)

  pub turned-lands : (opened : ℕ) (by : ℤ) → turned opened last by ≡ Some page → Lands last page (pos opened +ℤ by)
  unfolding turned
  turned-lands opened by e = lands (pos opened +ℤ by) e

module _ (opened last : ℕ) where
  pub turned_zero : opened ≤ last → turned opened last (pos 0) ≡ Some opened
  unfolding turned landed
  turned_zero h = rw (add-zero, le-leb _ _ h)

  pub turned-far : (k : ℕ) → last < k → turned opened last (pos k) ≡ None
  unfolding turned landed
  turned-far k h = let l : last < opened + k = omega arith in rw (lt-leb _ _ l)

  pub turned-far-back : (k : ℕ) → opened ≤ k → turned opened last (negsuc k) ≡ None
  unfolding turned landed
  turned-far-back k h = let l : opened < suc k = omega arith in rw (lt-ltb _ _ l)

-- What holds of the elements of an array that a closure made, where its calls leave the closure as it is. Assumes nothing.
use mathlib.Core.Path.{◌≡◌, refl}
use mathlib.Core.List.{List}
use Prim.Native.Nat.{ℕ, zero, suc, ◌+◌, ◌≤◌, ◌<◌}
use native.Mathlib.Omega.{arith}
use lib.ListN.{get_or}
use Rattle.std.specs.Fn.{Mut, Called}
use Rattle.std.specs.Array.{IsFromFnResult, IsFromFnResultFrom}
use Rattle.lists.proofs.Lists.{is-by}

module _ {F B : Type 0} {g : Mut F (ℕ × Unit {0}) B} {f : F} (P : ℕ → B → Type 0) where
  made-from : ((i : ℕ) (y : B) (q : F) → Called g f (i, tt) y q → (q ≡ f) × P i y) → (ys : List B) (d : B) (n i j : ℕ) (p : F) → p ≡ f
      → IsFromFnResultFrom g p ys i n → i ≤ j → j < i + n → P j (get_or ys j d)
  made-from each ys d zero i j p e m h k = absurd (omega (arith, h, k))
  made-from each ys d (suc n) i j p e m h k =
      let w = each i m.1 m.0 (rw e at m.3) in
      is-by j i
      (λ q. rw (q, m.2.1 d) w.1)
      (λ q. made-from each ys d n (i + 1) j m.0 w.0 m.4 (omega (arith, q, h)) (omega arith))

  pub made-holds : {ys : List B} {n : ℕ} → IsFromFnResult g f ys n → ((i : ℕ) (y : B) (q : F) → Called g f (i, tt) y q → (q ≡ f) × P i y)
      → (j : ℕ) (d : B) → j < n → P j (get_or ys j d)
  made-holds {ys} {n} m each j d h = made-from each ys d n 0 j f refl m.each (omega arith) (omega arith)

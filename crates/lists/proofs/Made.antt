-- An array that a closure made, place by place, where its calls leave the closure as it is. Assumes nothing.
use mathlib.Core.Path.{◌≡◌, refl, ◌∙◌}
use mathlib.Core.List.{List}
use Prim.Native.Nat.{ℕ, zero, suc, ◌+◌, ◌≤◌, ◌<◌}
use native.Mathlib.Omega.{arith}
use lib.ListN.{length, get_or, take}
use lib.Seq.{length-take-le, get_or-take}
use Rattle.std.specs.Fn.{Mut, Called}
use Rattle.std.specs.Array.{IsFromFnResult, IsFromFnResultFrom}
use Rattle.std.proofs.lemmas.List.{ext_get_or}
use Rattle.lists.proofs.Lists.{by}
use lib.Dec.{ltb}
use borrow.Author.Tests.{ltb-true, ltb-false}

module _ {F B : Type 0} (g : Mut F (ℕ × Unit {0}) B) (f : F) (l : List B) (d : B) (each : (i : ℕ) (y : B) (q : F) → Called g f (i, tt) y q → (q ≡ f) × (y ≡ get_or l i d)) where
  made-at : (ys : List B) (n i j : ℕ) (p : F) → p ≡ f → IsFromFnResultFrom g p ys i n → i ≤ j → j < i + n → get_or ys j d ≡ get_or l j d
  made-at ys zero i j p e m h k = absurd (omega (arith, h, k))
  made-at ys (suc n) i j p e m h k =
      let w = each i m.1 m.0 (rw e at m.3) in
      by (ltb i j)
      (λ t. made-at ys n (i + 1) j m.0 w.0 m.4 (omega (arith, ltb-true i j t)) (omega arith))
      (λ t. let z : j ≡ i = omega (arith, ltb-false i j t) in rw z (m.2.1 d ∙ w.1))

  pub made-is : {ys : List B} {n : ℕ} → length l ≡ n → IsFromFnResult g f ys n → ys ≡ l
  made-is {ys} {n} e m = ext_get_or d ys l (omega (arith, m.long, e)) (λ j h. made-at ys n 0 j f refl m.each (omega arith) (omega (arith, m.long)))

  -- a list that is shorter stands at the array's start
  pub made-start : {ys : List B} {n : ℕ} → length l ≤ n → IsFromFnResult g f ys n → take (length l) ys ≡ l
  made-start {ys} {n} h m =
      let e : length (take (length l) ys) ≡ length l = length-take-le (length l) ys (omega (arith, m.long, h)) in
      ext_get_or d (take (length l) ys) l e
      (λ j k. let s : j < length l = omega (arith, e, k) in get_or-take (length l) ys j d s ∙ made-at ys n 0 j f refl m.each (omega arith) (omega (arith, s, h)))

-- Commands made of numbers. Assumes nothing.
use mathlib.Core.Path.{◌≡◌, refl, ap}
use Prim.Native.Nat.{ℕ, zero, suc, ◌-◌, ◌≤◌, ◌<◌}
use native.Mathlib.Omega.{arith}
use lib.IntN.{ℤ, pos, negsuc, neg_ℤ, ◌-ℤ◌}
use borrow.Author.Tests.{lt-ltb, le-ltb}
use mir.Syntax.{w32, w64}
use mir.Val.{SFits, to_z, of_z}
use mir.Facts.{to_z-of_z}
use Rattle.std.specs.Prelude.{Result, Ok, Err, OkIff}
use Rattle.std.specs.Result.{result_or}
use Rattle.refusals.specs.declared.Refusal.{Refusal}
use Rattle.lists.proofs.Lists.{le-by}
use Rattle.refusals.specs.declared.Refusal.TheVariants.{OutOfRange}
use Rattle.log_commands.specs.Grammar.{turn_forward, turn_back}
use Rattle.log_commands.specs.Groups.{turn_by}
use Rattle.log_commands.specs.declared.Call.TheVariants.{Turn}
use Rattle.log_commands.specs.declared.Command.TheVariants.{Call}

-- the i32 that a number of pages is, forward and back
module _ (n : ℕ) where
  forward-far : (SFits w32 (pos n) → ⊥) → Err OutOfRange ≡ turn_forward n
  unfolding turn_forward
  forward-far h =
      le-by n 2147483647
      (λ l. absurd (h (record { sfits = let m : n < 2147483648 = omega arith in m })))
      (λ l. rw (le-ltb n 2147483648 (omega arith)))

  forward-near : {x : ℤ} → SFits w32 (pos n) × (x ≡ pos n) → Ok (Call (Turn (to_z w32 (of_z w32 x)))) ≡ turn_forward n
  unfolding turn_forward
  forward-near {x} (f, e) =
      let l : n < 2147483648 = f.sfits in
      let q : to_z w32 (of_z w32 x) ≡ pos n = rw e (to_z-of_z f) in
      rw (q, lt-ltb n 2147483648 l) refl

less : (n : ℕ) → pos 0 -ℤ pos n ≡ neg_ℤ (pos n)
less zero = refl
less (suc n) = let l : 0 < suc n = omega arith in let e : suc n - 1 ≡ n = omega arith in rw (lt-ltb 0 (suc n) l) (ap negsuc e)

negative_fits : (n : ℕ) → n ≤ 2147483648 → SFits w32 (neg_ℤ (pos n))
negative_fits zero h = record { sfits = omega arith }
negative_fits (suc n) h = record { sfits = let l : n < 2147483648 = omega arith in l }

negative-near : (n : ℕ) → SFits w32 (neg_ℤ (pos n)) → n ≤ 2147483648
negative-near zero h = omega arith
negative-near (suc n) h = let l : n < 2147483648 = h.sfits in omega arith

negative-wide : (n : ℕ) → n < 4294967296 → SFits w64 (neg_ℤ (pos n))
negative-wide zero h = record { sfits = omega arith }
negative-wide (suc n) h = record { sfits = let l : n < 9223372036854775808 = omega arith in l }

positive-wide : (n : ℕ) → n < 4294967296 → SFits w64 (pos n)
positive-wide n h = record { sfits = let l : n < 9223372036854775808 = omega arith in l }

module _ (n : ℕ) {z : ℤ} (e : z ≡ neg_ℤ (pos n)) where
  back-far : (SFits w32 z → ⊥) → Err OutOfRange ≡ turn_back n
  unfolding turn_back
  back-far h =
      le-by n 2147483648
      (λ l. absurd (h (rw e (negative_fits n l))))
      (λ l. rw (le-ltb n 2147483649 (omega arith)))

  back-near : {x : ℤ} → SFits w32 z × (x ≡ z) → Ok (Call (Turn (to_z w32 (of_z w32 x)))) ≡ turn_back n
  unfolding turn_back
  back-near {x} (f, g) =
      let l : n ≤ 2147483648 = negative-near n (rw e at f) in
      let q : to_z w32 (of_z w32 x) ≡ neg_ℤ (pos n) = rw (g, e) (to_z-of_z (negative_fits n l)) in
      let m : n < 2147483649 = omega arith in
      rw (q, lt-ltb n 2147483649 m) refl

fits_turn : (z : ℤ) {x : ℤ} → SFits w32 z × (x ≡ z) → Ok (Call (Turn (to_z w32 (of_z w32 x)))) ≡ turn_by z
unfolding turn_by
fits_turn (pos n) f = forward-near n f
fits_turn (negsuc n) f = back-near (suc n) refl f

no_turn : (z : ℤ) → (SFits w32 z → ⊥) → Err OutOfRange ≡ turn_by z
unfolding turn_by
no_turn (pos n) h = forward-far n h
no_turn (negsuc n) h = back-far (suc n) refl h

-- a turn by a number of pages that is an i32, and by another
module _ {E : Type 0} (z : ℤ) (w : SFits w64 z) where
  pub turn-near : (t : Result ℤ E) {m : Result ℤ Refusal} {x : ℤ} → OkIff t (SFits w32 (to_z w64 (of_z w64 z))) (to_z w64 (of_z w64 z)) → m ≡ result_or t (Err OutOfRange) → m ≡ Ok x
      → Ok (Call (Turn (to_z w32 (of_z w32 x)))) ≡ turn_by z
  turn-near (Ok y) {x = x} f e q =
      let d : y ≡ x = cc in
      fits_turn z (rw (d, to_z-of_z w) at f)
  turn-near (Err y) f e q = let d : ⊥ = cc in absurd d

  pub turn-far : (t : Result ℤ E) {m : Result ℤ Refusal} {r : Refusal} → OkIff t (SFits w32 (to_z w64 (of_z w64 z))) (to_z w64 (of_z w64 z)) → m ≡ result_or t (Err OutOfRange) → m ≡ Err r
      → Err r ≡ turn_by z
  turn-far (Ok y) f e q = let d : ⊥ = cc in absurd d
  turn-far (Err y) {r = r} f e q = let d : r ≡ OutOfRange = cc in rw d (no_turn z (rw (to_z-of_z w) at f))

-- a turn by the opposite of a number is one back
turned_back : (n : ℕ) → turn_by (neg_ℤ (pos n)) ≡ turn_back n
unfolding turn_by turn_forward turn_back
turned_back zero = refl
turned_back (suc n) = refl

-- the opposite of a number of 32 bits
opposite : (n : ℕ) {x : ℤ} → n < 4294967296 → x ≡ pos n → to_z w64 (of_z w64 (pos 0 -ℤ to_z w64 (of_z w64 x))) ≡ neg_ℤ (pos n)
opposite n {x} h e =
    let p : to_z w64 (of_z w64 x) ≡ pos n = rw e (to_z-of_z (positive-wide n h)) in
    rw (p, less n) (to_z-of_z (negative-wide n h))

-- a number of 32 bits as a number of pages, forward and back
module _ (n : ℕ) (h : n < 4294967296) {x : ℤ} (e : x ≡ pos n) where
  pub forward-said : turn_by (to_z w64 (of_z w64 x)) ≡ turn_forward n
  unfolding turn_by
  forward-said = rw (e, to_z-of_z (positive-wide n h)) refl

  pub back-said : turn_by (to_z w64 (of_z w64 (pos 0 -ℤ to_z w64 (of_z w64 x)))) ≡ turn_back n
  back-said = rw (opposite n h e) (turned_back n)

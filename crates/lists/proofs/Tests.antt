-- Laws of tests: either answer, and the answers of `&&` and `||` taken apart and put together. Assumes nothing.
use mathlib.Core.Path.{◌≡◌, refl, sym}
use mathlib.Core.Bool.{Bool, true, false, cond, ◌&&◌, ◌||◌}
use mir.Val.{bool_byte}
use Prim.Native.Nat.{ℕ, ◌≤◌, ◌<◌}
use native.Mathlib.Omega.{arith}
use lib.Dec.{eqb, leb}
use borrow.Author.Tests.{eqb-true, eqb-false, eq-eqb, leb-true, leb-false}
use Rattle.std.proofs.lemmas.Bool.{and_parts, or_parts}
pub use Rattle.std.proofs.lemmas.Bool.{and_from as and_i, or_left as or_l, or_right as or_r}

-- either answer of a test, with the equation
pub by {ℓ} : {P : Type ℓ} (b : Bool) → (b ≡ true → P) → (b ≡ false → P) → P
by true f g = f refl
by false f g = g refl

pub clash {ℓ} : {P : Type ℓ} {b : Bool} → b ≡ true → b ≡ false → P
clash p q = absurd (let z : ◌≡◌ {A = ℕ} 0 1 = cc in omega arith)

pub is-by {ℓ} : {P : Type ℓ} (x y : ℕ) → (x ≡ y → P) → ((x ≡ y → ⊥) → P) → P
is-by x y f g = by (eqb x y) (λ e. f (eqb-true x y e)) (λ e. g (eqb-false x y e))

pub le-by {ℓ} : {P : Type ℓ} (x y : ℕ) → (x ≤ y → P) → (y < x → P) → P
le-by x y f g = by (leb x y) (λ e. f (leb-true x y e)) (λ e. g (leb-false x y e))

pub and_l : (a b : Bool) → (a && b) ≡ true → a ≡ true
and_l a b h = (and_parts a b h).0

pub and_r : (a b : Bool) → (a && b) ≡ true → b ≡ true
and_r a b h = (and_parts a b h).1

pub or-by {ℓ} : {P : Type ℓ} (a b : Bool) → (a || b) ≡ true → (a ≡ true → P) → (b ≡ true → P) → P
or-by true b h f g = f refl
or-by false b h f g = g h

pub or-no-l : (a b : Bool) → (a || b) ≡ false → a ≡ false
or-no-l a b h = (or_parts a b h).0

pub or-no-r : (a b : Bool) → (a || b) ≡ false → b ≡ false
or-no-r a b h = (or_parts a b h).1

-- two tests that mean the same are equal
pub same_by : (a b : Bool) → (a ≡ true → b ≡ true) → (b ≡ true → a ≡ true) → a ≡ b
same_by true b f g = sym (f refl)
same_by false true f g = g refl
same_by false false f g = refl

pub eqb-swapped : (x y : ℕ) → eqb x y ≡ eqb y x
eqb-swapped x y = same_by (eqb x y) (eqb y x) (λ e. eq-eqb y x (sym (eqb-true x y e))) (λ e. eq-eqb x y (sym (eqb-true y x e)))

-- the number of a truth value
pub byte-bit : (b : Bool) → bool_byte b ≡ cond {A = ℕ} b 1 0
byte-bit true = refl
byte-bit false = refl

-- and that number read again
pub bit_is : (b : Bool) → eqb (cond b 1 0) 1 ≡ b
bit_is true = refl
bit_is false = refl

pub bit-on : (b : Bool) → ◌≡◌ {A = ℕ} (cond b 1 0) 1 → b ≡ true
bit-on true e = refl
bit-on false e = absurd (omega arith)

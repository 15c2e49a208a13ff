-- Laws of common divisors and multiples: Euclid's algorithm finds the greatest, Euclid's lemma, and the least common multiple. Assumes nothing.
use mathlib.Core.Path.{◌≡◌, ap, sym, ◌∙◌}
use mathlib.Core.Bool.{true, false}
use Prim.Native.Nat.{ℕ, zero, suc, ◌+◌, ◌*◌, ◌-◌, ◌/◌, ◌%◌, ◌≤◌, ◌<◌, ◌∣◌}
use native.Mathlib.Omega.{arith}
use native.Mathlib.Nat.{mul_comm, mul_assoc, mul-one, mul-sub, mul-pos, mul_left_comm, eq_of_mul-eq-mul_left, mod-lt, mod_def, mul-div-mul_left, mul-div_cancel', dvd_refl, dvd-zero, dvd_trans, dvd-mul_left, dvd-mul_right, dvd-mod_iff, dvd_antisymm, dvd-one, le_of_dvd, pos_of_dvd_of_pos, mul-dvd-mul_left, dvd_of_mul-dvd-mul_left}
use borrow.Author.Tests.{eqb-true, eqb-false}
use lib.Dec.{eqb}
use Rattle.lists.proofs.Lists.{by, le-by}
use Rattle.fraction.specs.Divisor.{GreatestCommonDivisor, LeastCommonMultiple, gcd_in, gcd, lcm}

-- Euclid's step: what divides b divides a exactly if it divides the rest of a by b
step_is : (a b g : ℕ) → GreatestCommonDivisor b (a % b) g → GreatestCommonDivisor a b g
step_is a b g h = record {
  left = (dvd-mod_iff g h.left).0 h.right;
  right = h.left;
  greatest = λ d p q. h.greatest d q ((dvd-mod_iff d q).1 p);
}

-- the bound is enough where it is above b
gcd-in : (bound a b : ℕ) → b < bound → GreatestCommonDivisor a b (gcd_in bound a b)
unfolding gcd_in
gcd-in zero a b h = absurd (omega arith)
gcd-in (suc bound) a b h =
    by (eqb b 0)
    (λ (e : eqb b 0 ≡ true).
    let z : b ≡ 0 = eqb-true b 0 e in
    rw e (record { left = dvd_refl a; right = rw z (dvd-zero a); greatest = λ d p q. p }))
    (λ (e : eqb b 0 ≡ false).
    let z = eqb-false b 0 e in
    let pos : 0 < b = omega arith in
    rw e (step_is a b (gcd_in bound b (a % b)) (gcd-in bound b (a % b) (omega (arith, mod-lt a pos)))))

-- The algorithm finds the greatest common divisor.
pub gcd-is : (a b : ℕ) → GreatestCommonDivisor a b (gcd a b)
unfolding gcd
gcd-is a b = gcd-in (suc b) a b (omega arith)

-- There is one.
pub gcd-unique : (a b g : ℕ) → GreatestCommonDivisor a b g → g ≡ gcd a b
gcd-unique a b g h = let k = gcd-is a b in dvd_antisymm (k.greatest g h.left h.right) (h.greatest (gcd a b) k.left k.right)

-- It is above 0 unless both numbers are 0.
pub gcd-positive : (a b : ℕ) → 0 < a + b → 0 < gcd a b
gcd-positive a b h =
    le-by a 0
    (λ (z : a ≤ 0). let p : 0 < b = omega arith in pos_of_dvd_of_pos (gcd-is a b).right p)
    (λ (p : 0 < a). pos_of_dvd_of_pos (gcd-is a b).left p)

-- No common divisor is greater.
pub gcd-greatest : (a b d : ℕ) → 0 < a + b → d ∣ a → d ∣ b → d ≤ gcd a b
gcd-greatest a b d h p q = le_of_dvd (gcd-positive a b h) ((gcd-is a b).greatest d p q)

pub gcd-swapped : (a b : ℕ) → gcd a b ≡ gcd b a
gcd-swapped a b = let h = gcd-is a b in gcd-unique b a (gcd a b) (record { left = h.right; right = h.left; greatest = λ d p q. h.greatest d q p })

-- Euclid's step in the algorithm itself
pub gcd-none : (a : ℕ) → gcd a 0 ≡ a
gcd-none a = sym (gcd-unique a 0 a (record { left = dvd_refl a; right = dvd-zero a; greatest = λ d p q. p }))

pub gcd-step : (a b : ℕ) → gcd a b ≡ gcd b (a % b)
gcd-step a b = sym (gcd-unique a b (gcd b (a % b)) (step_is a b (gcd b (a % b)) (gcd-is b (a % b))))

-- a common factor comes out of the rest
rest-times : (c a b : ℕ) → 0 < c → c * a % (c * b) ≡ c * (a % b)
rest-times c a b pos =
    mod_def (c * a) (c * b) ∙ ap (λ (x : ℕ). c * a - c * b * x) (mul-div-mul_left a b pos) ∙ ap (λ (x : ℕ). c * a - x) (mul_assoc c b (a / b)) ∙ sym (mul-sub c a (b * (a / b)))
    ∙ ap (λ (x : ℕ). c * x) (sym (mod_def a b))

times-in : (bound c a b : ℕ) → 0 < c → b < bound → gcd (c * a) (c * b) ≡ c * gcd a b
times-in zero c a b pos h = absurd (omega arith)
times-in (suc bound) c a b pos h =
    le-by b 0
    (λ (z : b ≤ 0). let e : b ≡ 0 = omega arith in let none : c * 0 ≡ 0 = omega arith in rw (e, none, gcd-none (c * a), gcd-none a))
    (λ (p : 0 < b).
    gcd-step (c * a) (c * b) ∙ ap (gcd (c * b)) (rest-times c a b pos) ∙ times-in bound c b (a % b) pos (omega (arith, mod-lt a p)) ∙ ap (λ (x : ℕ). c * x) (sym (gcd-step a b)))

-- A common factor comes out of the greatest common divisor.
pub gcd-times : (c a b : ℕ) → 0 < c → gcd (c * a) (c * b) ≡ c * gcd a b
gcd-times c a b pos = times-in (suc b) c a b pos (omega arith)

-- Euclid's lemma: what divides a product and has no common divisor with one factor divides the other.
pub euclid : (a b c : ℕ) → gcd a b ≡ 1 → a ∣ b * c → a ∣ c
euclid a b c h p =
    le-by c 0
    (λ (z : c ≤ 0). let e : c ≡ 0 = omega arith in rw e (dvd-zero a))
    (λ (pos : 0 < c).
    let e : gcd (c * a) (c * b) ≡ c = gcd-times c a b pos ∙ ap (λ (x : ℕ). c * x) h ∙ mul-one c in
    let d : a ∣ gcd (c * a) (c * b) = (gcd-is (c * a) (c * b)).greatest a (dvd-mul_left a c) (rw (mul_comm c b) p) in
    rw e at d)

-- the quotients by the greatest common divisor give the numbers back
module _ (a b : ℕ) where
  pub part_left : gcd a b * (a / gcd a b) ≡ a
  part_left = mul-div_cancel' (gcd a b) (gcd-is a b).left

  pub part_right : gcd a b * (b / gcd a b) ≡ b
  part_right = mul-div_cancel' (gcd a b) (gcd-is a b).right

-- Divided by their greatest common divisor two numbers have no other common divisor than 1.
pub parts-coprime : (a b : ℕ) → 0 < a + b → gcd (a / gcd a b) (b / gcd a b) ≡ 1
parts-coprime a b h =
    let g = gcd a b in
    let pos : 0 < g = gcd-positive a b h in
    let e : g * gcd (a / g) (b / g) ≡ g = sym (gcd-times g (a / g) (b / g) pos) ∙ ap (λ (x : ℕ). gcd x (g * (b / g))) (part_left a b) ∙ ap (gcd a) (part_right a b) in
    eq_of_mul-eq-mul_left g pos (gcd (a / g) (b / g)) 1 (e ∙ sym (mul-one g))

-- A number without a common divisor with each factor has none with the product.
pub coprime-product : (a b c : ℕ) → gcd a b ≡ 1 → gcd a c ≡ 1 → gcd a (b * c) ≡ 1
coprime-product a b c p q =
    let d = gcd a (b * c) in
    let k = gcd-is a (b * c) in
    let l = gcd-is d b in
    let one : gcd d b ∣ 1 = rw p at ((gcd-is a b).greatest (gcd d b) (dvd_trans (gcd d b) l.left k.left) l.right) in
    let m : d ∣ c = euclid d b c (dvd-one.0 one) k.right in
    dvd-one.0 (rw q at ((gcd-is a c).greatest d k.left m))

-- The least common multiple, as it is computed, is the least.
module _ (a b : ℕ) where
  lcm-left : lcm a b ≡ b * (a / gcd a b)
  unfolding lcm
  lcm-left = mul_comm (a / gcd a b) b

  pub lcm-right : lcm a b ≡ a * (b / gcd a b)
  unfolding lcm
  lcm-right =
      let g = gcd a b in
      ap (λ (x : ℕ). a / g * x) (sym (part_right a b)) ∙ mul_left_comm (a / g) g (b / g) ∙ sym (mul_assoc g (a / g) (b / g)) ∙ ap (λ (x : ℕ). x * (b / g)) (part_left a b)

  lcm-least : 0 < a + b → (n : ℕ) → a ∣ n → b ∣ n → lcm a b ∣ n
  lcm-least h n p q =
      let g = gcd a b in
      let pos : 0 < g = gcd-positive a b h in
      let x = n / a in
      let e : a * x ≡ n = mul-div_cancel' a p in
      let d : b / g ∣ a / g * x =
      dvd_of_mul-dvd-mul_left (b / g) pos
      (rw (part_right a b, ← mul_assoc g (a / g) x, part_left a b, e) q) in
      let y : b / g ∣ x = euclid (b / g) (a / g) x (gcd-swapped (b / g) (a / g) ∙ parts-coprime a b h) d in
      rw (lcm-right, ← e) (mul-dvd-mul_left (b / g) a y)

  pub lcm-is : 0 < a + b → LeastCommonMultiple a b (lcm a b)
  lcm-is h = record { left = rw lcm-right (dvd-mul_right a (b / gcd a b)); right = rw lcm-left (dvd-mul_right b (a / gcd a b)); least = lcm-least h }

pub lcm-unique : (a b m : ℕ) → 0 < a + b → LeastCommonMultiple a b m → m ≡ lcm a b
lcm-unique a b m pos h = let k = lcm-is a b pos in dvd_antisymm (h.least (lcm a b) k.left k.right) (k.least m h.left h.right)

pub lcm-positive : (a b : ℕ) → 0 < a → 0 < b → 0 < lcm a b
lcm-positive a b p q =
    let pos : 0 < a + b = omega arith in
    let d : lcm a b ∣ a * b = (lcm-is a b pos).least (a * b) (dvd-mul_right a b) (dvd-mul_left b a) in
    pos_of_dvd_of_pos d (mul-pos p q)

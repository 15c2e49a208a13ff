-- Laws of fractions: lowest terms, the least common denominator, the sum of one fraction more, and the mean. Assumes nothing.
use mathlib.Core.Path.{◌≡◌, ap, sym, ◌∙◌}
use mathlib.Core.List.{List, [], ◌∷◌, ◌++◌}
use Prim.Native.Nat.{ℕ, ◌+◌, ◌*◌, ◌/◌, ◌≤◌, ◌<◌, ◌∣◌}
use native.Mathlib.Omega.{arith}
use native.Mathlib.Nat.{add-mul, mul_comm, mul_assoc, mul-pos, mul_left_comm, mul_right_comm, eq_of_mul-eq-mul_right, mul-div_cancel', mul-div_assoc, div-mul-le_self, le-div_iff_mul-le, dvd_trans, dvd-mul_left, dvd_antisymm, dvd-one, one-dvd, pos_of_dvd_of_pos}
use Rattle.fraction.specs.declared.Fraction.{Fraction}
use Rattle.fraction.specs.Divisor.{gcd, lcm}
use Rattle.fraction.specs.Fraction.{LowestTerms, lowest_terms, Positive, Divided, LeastCommonDenominator, common_denominator, numerator_over, sum_of}
use Rattle.fraction.specs.Bounded.{plus}
use Rattle.fraction.proofs.Divisors.{gcd-is, gcd-positive, gcd-swapped, euclid, part_left, part_right, parts-coprime, coprime-product, lcm-right, lcm-is, lcm-unique, lcm-positive}

-- Lowest terms.
positive-sum : (a b : ℕ) → 0 < b → 0 < a + b
positive-sum a b h = omega arith

pub lowest-terms-is : (a b : ℕ) → 0 < b → LowestTerms a b (lowest_terms a b)
unfolding lowest_terms lcm
lowest-terms-is a b h = record { coprime = parts-coprime a b (positive-sum a b h); same = lcm-right a b }

pub lowest-positive : (a b : ℕ) → 0 < b → 0 < (lowest_terms a b).denominator
unfolding lowest_terms
lowest-positive a b h = pos_of_dvd_of_pos (let e = part_right a b in let d : b / gcd a b ∣ gcd a b * (b / gcd a b) = dvd-mul_left (b / gcd a b) (gcd a b) in rw e at d) h

-- a fraction of at most 1 stays so
pub lowest-atmost : (a b : ℕ) → 0 < b → a ≤ b → (lowest_terms a b).numerator ≤ (lowest_terms a b).denominator
unfolding lowest_terms
lowest-atmost a b h p =
    let g = gcd a b in
    let pos : 0 < g = gcd-positive a b (positive-sum a b h) in
    let d = div-mul-le_self a g in
    (le-div_iff_mul-le pos).1 (omega arith)

-- two fractions without common divisors that are the same number are the same fraction
denominators-divide : (f g : Fraction) → gcd f.numerator f.denominator ≡ 1 → f.numerator * g.denominator ≡ g.numerator * f.denominator → f.denominator ∣ g.denominator
denominators-divide f g h e =
    euclid f.denominator f.numerator g.denominator (gcd-swapped f.denominator f.numerator ∙ h) (rw e (dvd-mul_left f.denominator g.numerator))

pub same-fraction : (f g : Fraction) → gcd f.numerator f.denominator ≡ 1 → gcd g.numerator g.denominator ≡ 1 → 0 < g.denominator → f.numerator * g.denominator ≡ g.numerator * f.denominator → f ≡ g
same-fraction f g h k pos e =
    let d : f.denominator ≡ g.denominator = dvd_antisymm (denominators-divide f g h e) (denominators-divide g f k (sym e)) in
    let n : f.numerator ≡ g.numerator = eq_of_mul-eq-mul_right g.denominator pos f.numerator g.numerator (e ∙ ap (λ (x : ℕ). g.numerator * x) d) in
    λ i. record { numerator = n i; denominator = d i }

-- There is one pair in lowest terms.
pub lowest-unique : (a b : ℕ) (f : Fraction) → 0 < b → LowestTerms a b f → f ≡ lowest_terms a b
lowest-unique a b f pos h =
    let g = lowest_terms a b in
    let k = lowest-terms-is a b pos in
    same-fraction f g h.coprime k.coprime (lowest-positive a b pos)
    (eq_of_mul-eq-mul_right b pos (f.numerator * g.denominator) (g.numerator * f.denominator)
    (mul_right_comm f.numerator g.denominator b ∙ ap (λ (x : ℕ). x * g.denominator) h.same ∙ mul_right_comm a f.denominator g.denominator
    ∙ ap (λ (x : ℕ). x * f.denominator) (sym k.same) ∙ mul_right_comm g.numerator b f.denominator))

-- The least common denominator.
divided-trans : (d n : ℕ) (l : List Fraction) → d ∣ n → Divided d l → Divided n l
divided-trans d n [] p h = tt
divided-trans d n (f ∷ l) p h = (dvd_trans f.denominator h.0 p, divided-trans d n l p h.1)

pub common-positive : (l : List Fraction) → Positive l → 0 < common_denominator l
unfolding common_denominator
common-positive [] h = omega arith
common-positive (f ∷ l) h = lcm-positive f.denominator (common_denominator l) h.0 (common-positive l h.1)

pub common-denominator-is : (l : List Fraction) → Positive l → LeastCommonDenominator l (common_denominator l)
unfolding common_denominator
common-denominator-is [] h = record { divided = tt; least = λ n k. one-dvd n }
common-denominator-is (f ∷ l) h =
    let r = common-denominator-is l h.1 in
    let d = common_denominator l in
    let m = lcm-is f.denominator d (omega (arith, h.0)) in
    record { divided = (m.left, divided-trans d (lcm f.denominator d) l m.right r.divided); least = λ n k. m.least n k.0 (r.least n k.1) }

-- one fraction more
module _ (f : Fraction) where
  divided-both : (n : ℕ) (l : List Fraction) → Divided n l → f.denominator ∣ n → Divided n (l ++ (f ∷ []))
  divided-both n [] h p = (p, tt)
  divided-both n (g ∷ l) h p = (h.0, divided-both n l h.1 p)

  divided-before : (n : ℕ) (l : List Fraction) → Divided n (l ++ (f ∷ [])) → Divided n l
  divided-before n [] h = tt
  divided-before n (g ∷ l) h = (h.0, divided-before n l h.1)

  divided-last : (n : ℕ) (l : List Fraction) → Divided n (l ++ (f ∷ [])) → f.denominator ∣ n
  divided-last n [] h = h.0
  divided-last n (g ∷ l) h = divided-last n l h.1

  pub positive-both : (l : List Fraction) → Positive l → 0 < f.denominator → Positive (l ++ (f ∷ []))
  positive-both [] h p = (p, tt)
  positive-both (g ∷ l) h p = (h.0, positive-both l h.1 p)

  pub common-more : (l : List Fraction) → Positive l → 0 < f.denominator → common_denominator (l ++ (f ∷ [])) ≡ lcm (common_denominator l) f.denominator
  common-more l h p =
      let all = common-denominator-is (l ++ (f ∷ [])) (positive-both l h p) in
      let before = common-denominator-is l h in
      let d = common_denominator l in
      let n = common_denominator (l ++ (f ∷ [])) in
      lcm-unique d f.denominator n (omega arith)
      (record {
        left = before.least n (divided-before n l all.divided);
        right = divided-last n l all.divided;
        least = λ m x y. all.least m (divided-both m l (divided-trans d m l x before.divided) y);
      })

  numerator-both : (d : ℕ) (l : List Fraction) → numerator_over d (l ++ (f ∷ [])) ≡ numerator_over d l + f.numerator * (d / f.denominator)
  unfolding numerator_over
  numerator-both d [] = omega arith
  numerator-both d (g ∷ l) = let e = numerator-both d l in omega arith

-- over a multiple of the denominator the numerator is that multiple
pub numerator-times : (d k : ℕ) (l : List Fraction) → Divided d l → numerator_over (d * k) l ≡ numerator_over d l * k
unfolding numerator_over
numerator-times d k [] h = omega arith
numerator-times d k (f ∷ l) h =
    let q = f.denominator in
    let e : d * k / q ≡ d / q * k = ap (λ (x : ℕ). x / q) (mul_comm d k) ∙ mul-div_assoc q k h.0 ∙ mul_comm k (d / q) in
    let a : f.numerator * (d * k / q) ≡ f.numerator * (d / q) * k = ap (λ (x : ℕ). f.numerator * x) e ∙ sym (mul_assoc f.numerator (d / q) k) in
    let b = numerator-times d k l h.1 in
    let c = add-mul (f.numerator * (d / q)) (numerator_over d l) k in
    omega arith

-- The sum of one fraction more.
pub sum_more : (l : List Fraction) (f : Fraction) → Positive l → 0 < f.denominator → sum_of (l ++ (f ∷ [])) ≡ plus (sum_of l) f
unfolding sum_of plus
sum_more l f h p =
    let d = common_denominator l in
    let q = f.denominator in
    let m = lcm d q in
    let e : common_denominator (l ++ (f ∷ [])) ≡ m = common-more f l h p in
    let k : d * (m / d) ≡ m = mul-div_cancel' d (lcm-is d q (omega arith)).left in
    let s : numerator_over m l ≡ numerator_over d l * (m / d) = ap (λ (x : ℕ). numerator_over x l) (sym k) ∙ numerator-times d (m / d) l (common-denominator-is l h).divided in
    let n : numerator_over (common_denominator (l ++ (f ∷ []))) (l ++ (f ∷ [])) ≡ numerator_over d l * (m / d) + f.numerator * (m / q) =
    ap (λ (x : ℕ). numerator_over x (l ++ (f ∷ []))) e ∙ numerator-both f m l ∙ ap (λ (x : ℕ). x + f.numerator * (m / q)) s in
    λ i. record { numerator = n i; denominator = e i }

-- The mean: the count is reduced by what it has in common with the reduced numerator.
coprime-part : (a b x : ℕ) → gcd a b ≡ 1 → x ∣ a → gcd x b ≡ 1
coprime-part a b x h p =
    let k = gcd-is x b in
    dvd-one.0 (rw h at ((gcd-is a b).greatest (gcd x b) (dvd_trans (gcd x b) k.left p) k.right))

module _ (n d c : ℕ) (p : 0 < d) (q : 0 < c) where
  -- the parts that the code makes
  abbrev reduced : Fraction
  reduced = lowest_terms n d

  abbrev parts : Fraction
  parts = lowest_terms reduced.numerator c

  abbrev quotient : Fraction
  quotient = record { numerator = parts.numerator; denominator = reduced.denominator * parts.denominator }

  divides-numerator : parts.numerator ∣ reduced.numerator
  unfolding lowest_terms
  divides-numerator = let e = part_left reduced.numerator c in let x = reduced.numerator / gcd reduced.numerator c in let d : x ∣ gcd reduced.numerator c * x = dvd-mul_left x (gcd reduced.numerator c) in rw e at d

  quotient-lowest : LowestTerms n (d * c) quotient
  quotient-lowest =
      let r = lowest-terms-is n d p in
      let s = lowest-terms-is reduced.numerator c q in
      let x = parts.numerator in
      let y = parts.denominator in
      record {
        coprime = coprime-product x reduced.denominator y (coprime-part reduced.numerator reduced.denominator x r.coprime divides-numerator) s.coprime;
        same = mul_left_comm x d c ∙ ap (λ (z : ℕ). d * z) s.same ∙ sym (mul_assoc d reduced.numerator y) ∙ ap (λ (z : ℕ). z * y) (mul_comm d reduced.numerator ∙ r.same) ∙ mul_assoc n reduced.denominator y;
      }

  pub quotient_is : lowest_terms n (d * c) ≡ record { numerator = (lowest_terms (lowest_terms n d).numerator c).numerator; denominator = (lowest_terms n d).denominator * (lowest_terms (lowest_terms n d).numerator c).denominator }
  quotient_is = sym (lowest-unique n (d * c) quotient (mul-pos p q) quotient-lowest)

-- What all the answers come to: the last row is known. Assumes nothing.
use mathlib.Core.Path.{◌≡◌, refl, ap, sym, ◌∙◌}
use mathlib.Core.Bool.{Bool, true, false, not, cond, ◌&&◌, and-true}
use mathlib.Core.Logic.{◌≢◌}
use mathlib.Core.List.{List, [], ◌∷◌, ◌++◌}
use Prim.Native.Nat.{◌*◌, ◌≤◌, ◌<◌}
use native.Mathlib.Omega.{arith}
use native.Mathlib.Nat.{div-le_self}
use borrow.Author.Tests.{ne_eqb, ltb-true, lt-ltb, lt-leb}
use lib.Dec.{leb}
use lib.ListN.{length}
use Rattle.std.specs.Prelude.{Option, Some, None, Ok, Err}
use Rattle.std.specs.Option.{ok_or}
use Rattle.refusals.specs.Numbers.{number}
use Rattle.refusals.proofs.Numbers.{number-positive}
use Rattle.lists.specs.Lists.{filter}
use Rattle.lists.proofs.Lists.{by, and_l}
use Rattle.record_rows.specs.grounds.Ground.{◌given◌}
use Rattle.fraction.specs.declared.Fraction.{Fraction}
use Rattle.fraction.specs.Divisor.{gcd}
use Rattle.fraction.specs.Fraction.{lowest_terms, zero_fraction, sum_of, mean, least_fraction}
use Rattle.fraction.specs.Bounded.{limit64, fits64, bounded_fraction}
use Rattle.fraction.proofs.Fractions.{common-positive}
use Rattle.fraction.proofs.Bounds.{fraction-told, fraction-wide}
use Rattle.unity_table.specs.declared.Weights.{Weights}
use Rattle.unity_table.specs.declared.Summed.{Summed}
use Rattle.unity_table.specs.declared.RowFault.{RowFault}
use Rattle.unity_table.specs.Unity.{election_limit, shares, out_of_range, too_wide, weights_fault, Fault, deciding_fault, summary, refused_unity, unity_of, fault_of, answer_told}
use Rattle.unity_table.specs.Summed.{running, summed, Open, united_answer}
use Rattle.unity_table.proofs.Faults.{no_fault, stays, table-ends}
use Rattle.std.proofs.lemmas.List.{nil_from_length}
use Rattle.unity_table.proofs.Sums.{shares-positive, passes, passed, running-stays}

-- the mean's denominator does not fit
abbrev pub late-row : List Weights → Bool
late-row l = not (fits64 (mean (shares l)).denominator)

-- a row that has a fault has it as the last one too
pub fault-stays : (above : List Weights) (a : Weights) → weights_fault above a false ≢ 0 → weights_fault above a true ≡ weights_fault above a false
unfolding weights_fault too_wide
fault-stays above a n =
    let l = above ++ (a ∷ []) in
    by (out_of_range a)
    (λ (h : out_of_range a ≡ true). rw h)
    (λ (h : out_of_range a ≡ false).
    by (leb election_limit (length above))
    (λ (p : leb election_limit (length above) ≡ true). rw (h, p))
    (λ (p : leb election_limit (length above) ≡ false).
    by (fits64 (sum_of (shares l)).denominator)
    (λ (d : fits64 (sum_of (shares l)).denominator ≡ true).
    by (fits64 (sum_of (shares l)).numerator)
    (λ (m : fits64 (sum_of (shares l)).numerator ≡ true). absurd (n (rw (h, p, d, m))))
    (λ (m : fits64 (sum_of (shares l)).numerator ≡ false). rw (h, p, d, m)))
    (λ (d : fits64 (sum_of (shares l)).denominator ≡ false). rw (h, p, d))))

fault-last : (above : List Weights) (a : Weights) → weights_fault above a false ≡ 0 → weights_fault above a true ≡ 17 given late-row (above ++ (a ∷ []))
unfolding weights_fault too_wide
fault-last above a z =
    let f = passes above a z in
    rw (f.range, lt-leb election_limit (length above) f.place, f.denominator, f.numerator)

late-none : late-row [] ≡ false
unfolding shares filter mean
late-none = refl

-- the first fault of a table whose rows have none but, maybe, the last one's
pub last-decides : (l : List Weights) → (running l).number ≡ 0 → deciding_fault weights_fault [] l ≡ cond (late-row l) (record { number = 17; row = length l }) no_fault
last-decides l z = table-ends weights_fault late-row fault-last late-none l z

-- the mean's numerator is no greater than the sum's
pub mean-small : (l : List Fraction) → (mean l).numerator ≤ (sum_of l).numerator
unfolding mean lowest_terms
mean-small [] = omega arith
mean-small (f ∷ l) = div-le_self (sum_of (f ∷ l)).numerator (gcd (sum_of (f ∷ l)).numerator ((sum_of (f ∷ l)).denominator * length (f ∷ l)))

module _ (s : Summed) (l : List Weights) (o : Open s l) where
  end-divisor : 0 < s.sum.denominator
  unfolding summed sum_of
  end-divisor = rw o.is (common-positive (shares l) (shares-positive l))

  -- what the code divides
  pub end-divided : s.entered ≢ 0 → (0 < s.sum.denominator) × (0 < s.entered)
  end-divided some = (end-divisor, omega (arith, some))

  mean-some : (m : List Fraction) → length m ≢ 0 → mean m ≡ lowest_terms (sum_of m).numerator ((sum_of m).denominator * length m)
  unfolding mean
  mean-some [] n = absurd (n refl)
  mean-some (f ∷ m) n = refl

  pub mean-divided : s.entered ≢ 0 → {r : Option Fraction} → r ≡ bounded_fraction (lowest_terms s.sum.numerator (s.sum.denominator * s.entered)) → r ≡ bounded_fraction (mean (shares l))
  unfolding summed
  mean-divided some q =
      q
      ∙ ap (λ (x : Summed). bounded_fraction (lowest_terms x.sum.numerator (x.sum.denominator * x.entered))) o.is
      ∙ ap bounded_fraction (sym (mean-some (shares l) (λ n. some (ap (λ (x : Summed). x.entered) o.is ∙ n))))

  -- no share entered
  pub mean_none : s.entered ≡ 0 → Some s.least ≡ bounded_fraction (mean (shares l))
  unfolding summed mean least_fraction bounded_fraction
  mean_none n =
      let g : length (shares l) ≡ 0 = sym (ap (λ (x : Summed). x.entered) o.is) ∙ n in
      let m = nil_from_length (shares l) g in
      let b : s.least ≡ zero_fraction = ap (λ (x : Summed). x.least) o.is ∙ rw m in
      rw (m, b)

  -- the numerator is no greater than the sum's
  numerator-fits : fits64 (mean (shares l)).numerator ≡ true
  numerator-fits =
      let n = ltb-true (sum_of (shares l)).numerator limit64 (passed l o.none).numerator in
      let d = mean-small (shares l) in
      lt-ltb (mean (shares l)).numerator limit64 (omega arith)

  end-wide : None ≡ bounded_fraction (mean (shares l)) → (wide : RowFault) → fault_of wide ≡ record { number = 17; row = s.rows } → answer_told (Err wide) ≡ unity_of l
  unfolding unity_of summed
  end-wide e wide f =
      let m = numerator-fits in
      let w : (fits64 (mean (shares l)).denominator && fits64 (mean (shares l)).numerator) ≡ false = fraction-wide (mean (shares l)) e in
      let d : fits64 (mean (shares l)).denominator ≡ false = sym (and-true (fits64 (mean (shares l)).denominator)) ∙ (rw m at w) in
      let h : late-row l ≡ true = rw d in
      let g : deciding_fault weights_fault [] l ≡ record { number = 17; row = length l } = last-decides l o.none ∙ rw h in
      ap refused_unity f ∙ rw g (ap (λ (x : Summed). refused_unity (record { number = 17; row = x.rows })) o.is)

  end-mean : (m : Fraction) → Some m ≡ bounded_fraction (mean (shares l)) → answer_told (Ok (united_answer s m)) ≡ unity_of l
  unfolding unity_of summary summed
  end-mean m e =
      let w = fraction-told (mean (shares l)) m e in
      let d = and_l (fits64 (mean (shares l)).denominator) (fits64 (mean (shares l)).numerator) w.fits in
      let h : late-row l ≡ false = rw d in
      let f : deciding_fault weights_fault [] l ≡ no_fault = last-decides l o.none ∙ rw h in
      rw f (ap (λ (x : Fraction). answer_told (Ok (united_answer s x))) w.value ∙ ap (λ (x : Summed). answer_told (Ok (united_answer x (mean (shares l))))) o.is)

  -- the mean, or that it does not fit
  module _ (wide : RowFault) (f : fault_of wide ≡ record { number = 17; row = s.rows }) where
    pub end-refused : (m : Option Fraction) → m ≡ bounded_fraction (mean (shares l)) → {r : RowFault} → ok_or m wide ≡ Err r → answer_told (Err r) ≡ unity_of l
    end-refused None e {r = r} q = let w : wide ≡ r = cc in ap (λ (x : RowFault). answer_told (Err x)) (sym w) ∙ end-wide e wide f
    end-refused (Some m) e q = cc

    pub end-accepted : (m : Option Fraction) → m ≡ bounded_fraction (mean (shares l)) → {v : Fraction} → ok_or m wide ≡ Ok v → answer_told (Ok (united_answer s v)) ≡ unity_of l
    end-accepted None e q = cc
    end-accepted (Some m) e {v = v} q = let w : m ≡ v = cc in ap (λ (x : Fraction). answer_told (Ok (united_answer s x))) (sym w) ∙ end-mean m e

-- a table whose first rows have a fault, whatever follows
pub table-refused : (l m : List Weights) (f : RowFault) → running l ≡ fault_of f → answer_told (Err f) ≡ unity_of (l ++ m)
unfolding unity_of
table-refused l m f e =
    let n : (running l).number ≢ 0 = λ z. number-positive f.refusal (sym (ap (λ (x : Fault). x.number) e) ∙ z) in
    let r = running-stays l m n in
    let g : deciding_fault weights_fault [] (l ++ m) ≡ fault_of f = stays weights_fault fault-stays [] (l ++ m) (λ z. n (sym (ap (λ (x : Fault). x.number) r) ∙ z)) ∙ r ∙ e in
    rw (g, ne_eqb (number f.refusal) 0 (number-positive f.refusal))

-- The answers so far: what one more leaves, and what all of them come to. Assumes nothing.
use mathlib.Core.Path.{◌≡◌, refl, ap, sym, ◌∙◌}
use mathlib.Core.Bool.{Bool, true, false, not, ◌&&◌, ◌||◌, cond}
use mathlib.Core.Logic.{◌≢◌}
use mathlib.Core.List.{List, [], ◌∷◌, ◌++◌, map-append, append_assoc, append-nil}
use Prim.Native.Nat.{ℕ, suc, ◌+◌, ◌*◌, ◌≤◌, ◌<◌}
use native.Mathlib.Omega.{arith}
use native.Mathlib.Nat.{div-le_self}
use borrow.Author.Tests.{eqb-true, eqb-false, eq-eqb, ne_eqb, ltb-false, le-ltb, leb-true, leb-false, le-leb, lt-leb}
use lib.Dec.{eqb, ltb, leb}
use lib.ListN.{length, length-append, length-map}
use Rattle.std.specs.Option.{ok_or}
use Rattle.lists.specs.Lists.{filter}
use Rattle.lists.proofs.Lists.{by, and_l, and_r, or-no-l, or-no-r}
use Rattle.lists.proofs.Front.{filter-append, filter-length}
use Rattle.fraction.specs.declared.Fraction.{Fraction}
use Rattle.fraction.specs.Divisor.{gcd}
use Rattle.fraction.specs.Fraction.{lowest_terms, Positive, common_denominator, numerator_over, sum_of, is_below, least_fraction, greatest_fraction}
use Rattle.fraction.specs.Bounded.{fits64, plus}
use Rattle.fraction.proofs.Fractions.{lowest-terms-is, lowest-positive, common-positive, sum_more}
use Rattle.fraction.proofs.Reordered.{Reduced, reduced-positive}
use Rattle.fraction.proofs.Extremes.{least_more, greatest-fraction-more}
use Rattle.unity_table.specs.declared.Weights.{Weights}
use Rattle.unity_table.specs.declared.Summed.{Summed}
use Rattle.unity_table.specs.declared.RowFault.{RowFault}
use Rattle.unity_table.specs.Unity.{election_limit, total_limit, is_empty, is_won, share_of, shares, out_of_range, too_wide, weights_fault, Fault, deciding_fault, count_by, fault_of}
use Rattle.unity_table.specs.Summed.{running, summed, Open, Room, with_empty, with_sum, with_share, SummedTo}
use Rattle.unity_table.proofs.Faults.{no_fault, fault_at, running_more, running-keeps}

-- how many pass a test, of one answer more
count-more : (p : Weights → Bool) (l : List Weights) (a : Weights) → count_by p (l ++ (a ∷ [])) ≡ count_by p l + cond (p a) 1 0
unfolding count_by filter
count-more p l a =
    by (p a)
    (λ (e : p a ≡ true). rw (filter-append p l (a ∷ []), e, length-append (filter p l) (a ∷ [])))
    (λ (e : p a ≡ false). rw (filter-append p l (a ∷ []), e, append-nil (filter p l)) (omega arith))

-- the shares of one answer more
module _ (l : List Weights) (a : Weights) where
  shares-empty : a.total ≡ 0 → shares (l ++ (a ∷ [])) ≡ shares l
  unfolding shares filter
  shares-empty z = rw (filter-append (λ a. not (is_empty a)) l (a ∷ []), eq-eqb a.total 0 z, append-nil (filter (λ a. not (is_empty a)) l))

  shares-more : 0 < a.total → shares (l ++ (a ∷ [])) ≡ shares l ++ (share_of a ∷ [])
  unfolding shares filter
  shares-more h =
      let n : eqb a.total 0 ≡ false = ne_eqb a.total 0 (λ e. omega arith) in
      rw (filter-append (λ a. not (is_empty a)) l (a ∷ []), n) (map-append share_of (filter (λ a. not (is_empty a)) l) (a ∷ []))

shares-few : (l : List Weights) → length (shares l) ≤ length l
unfolding shares
shares-few l = let m = length-map (filter (λ a. not (is_empty a)) l) share_of in let n = filter-length (λ a. not (is_empty a)) l in omega arith

-- every share is in lowest terms, its denominator above 0
pub shares-reduced : (l : List Weights) → Reduced (shares l)
unfolding shares filter
shares-reduced [] = tt
shares-reduced (a ∷ l) =
    by (eqb a.total 0)
    (λ (e : eqb a.total 0 ≡ true). rw e (shares-reduced l))
    (λ (e : eqb a.total 0 ≡ false).
    let n = eqb-false a.total 0 e in
    let p : 0 < a.total = omega arith in
    rw e ((lowest-positive a.greatest a.total p, (lowest-terms-is a.greatest a.total p).coprime), shares-reduced l))

pub shares-positive : (l : List Weights) → Positive (shares l)
shares-positive l = reduced-positive (shares l) (shares-reduced l)

-- an answer in range, and its share
pub record InRange (a : Weights) : Type 0 where
  pub together : a.greatest + a.silent ≤ a.total
  pub limited : a.total ≤ total_limit

pub in-range : (a : Weights) → out_of_range a ≡ false → InRange a
unfolding out_of_range
in-range a h = record {
  together = ltb-false a.total (a.greatest + a.silent) (or-no-l (ltb a.total (a.greatest + a.silent)) (ltb total_limit a.total) h);
  limited = ltb-false total_limit a.total (or-no-r (ltb a.total (a.greatest + a.silent)) (ltb total_limit a.total) h);
}

-- the numbers of a share, which are at most those of its row
pub record WithinTotals (f : Fraction) : Type 0 where
  pub numerator : f.numerator ≤ total_limit
  pub denominator : f.denominator ≤ total_limit

share-small : (a : Weights) → InRange a → WithinTotals (share_of a)
unfolding lowest_terms
share-small a h = record {
  numerator = let d = div-le_self a.greatest (gcd a.greatest a.total) in let t = h.together in let m = h.limited in omega arith;
  denominator = let d = div-le_self a.total (gcd a.greatest a.total) in let m = h.limited in omega arith;
}

choice-small : (b : Bool) (f g : Fraction) → WithinTotals f → WithinTotals g → WithinTotals (cond b f g)
choice-small true f g p q = p
choice-small false f g p q = q

-- what rows without fault keep
pub record Passed (l : List Weights) : Type 0 where
  pub few : length l ≤ election_limit
  pub denominator : fits64 (sum_of (shares l)).denominator ≡ true
  pub numerator : fits64 (sum_of (shares l)).numerator ≡ true
  pub least : WithinTotals (least_fraction (shares l))
  pub greatest : WithinTotals (greatest_fraction (shares l))

-- the grounds of a row, one by one
module _ (above : List Weights) (a : Weights) where
  abbrev rows : List Weights
  rows = above ++ (a ∷ [])

  fault-range : out_of_range a ≡ true → weights_fault above a false ≡ 2
  unfolding weights_fault
  fault-range h = rw h

  fault-place : out_of_range a ≡ false → election_limit ≤ length above → weights_fault above a false ≡ 3
  unfolding weights_fault
  fault-place h p = rw (h, le-leb election_limit (length above) p)

  fault-wide : out_of_range a ≡ false → length above < election_limit → (fits64 (sum_of (shares rows)).denominator && fits64 (sum_of (shares rows)).numerator) ≡ false → weights_fault above a false ≡ 17
  unfolding weights_fault too_wide
  fault-wide h p w =
      by (fits64 (sum_of (shares rows)).denominator)
      (λ (d : fits64 (sum_of (shares rows)).denominator ≡ true). let n : fits64 (sum_of (shares rows)).numerator ≡ false = rw d at w in rw (h, lt-leb election_limit (length above) p, d, n))
      (λ (d : fits64 (sum_of (shares rows)).denominator ≡ false). rw (h, lt-leb election_limit (length above) p, d))

  fault-none : out_of_range a ≡ false → length above < election_limit → fits64 (sum_of (shares rows)).denominator ≡ true → fits64 (sum_of (shares rows)).numerator ≡ true → weights_fault above a false ≡ 0
  unfolding weights_fault too_wide
  fault-none h p d n = rw (h, lt-leb election_limit (length above) p, d, n)

  -- and back
  pub record Passes : Type 0 where
    pub range : out_of_range a ≡ false
    pub place : length above < election_limit
    pub denominator : fits64 (sum_of (shares rows)).denominator ≡ true
    pub numerator : fits64 (sum_of (shares rows)).numerator ≡ true

  pub passes : weights_fault above a false ≡ 0 → Passes
  passes z =
      by (out_of_range a)
      (λ (h : out_of_range a ≡ true). absurd (let q = fault-range h in omega arith))
      (λ (h : out_of_range a ≡ false).
      by (leb election_limit (length above))
      (λ (p : leb election_limit (length above) ≡ true). absurd (let q = fault-place h (leb-true election_limit (length above) p) in omega arith))
      (λ (p : leb election_limit (length above) ≡ false).
      let few = leb-false election_limit (length above) p in
      by (fits64 (sum_of (shares rows)).denominator && fits64 (sum_of (shares rows)).numerator)
      (λ (w : (fits64 (sum_of (shares rows)).denominator && fits64 (sum_of (shares rows)).numerator) ≡ true).
      record { range = h; place = few; denominator = and_l (fits64 (sum_of (shares rows)).denominator) (fits64 (sum_of (shares rows)).numerator) w; numerator = and_r (fits64 (sum_of (shares rows)).denominator) (fits64 (sum_of (shares rows)).numerator) w })
      (λ (w : (fits64 (sum_of (shares rows)).denominator && fits64 (sum_of (shares rows)).numerator) ≡ false). absurd (let q = fault-wide h few w in omega arith))))

passed_none : Passed []
unfolding shares filter sum_of common_denominator numerator_over least_fraction greatest_fraction
passed_none = record { few = omega arith; denominator = refl; numerator = refl; least = record { numerator = omega arith; denominator = omega arith }; greatest = record { numerator = omega arith; denominator = omega arith } }

passed-more : (above : List Weights) (a : Weights) → Passed above → weights_fault above a false ≡ 0 → Passed (above ++ (a ∷ []))
passed-more above a p z =
    let f = passes above a z in
    let few : length (above ++ (a ∷ [])) ≤ election_limit = let e = length-append above (a ∷ []) in let n = f.place in omega arith in
    by (eqb a.total 0)
    (λ (e : eqb a.total 0 ≡ true).
    let s = shares-empty above a (eqb-true a.total 0 e) in
    record { few = few; denominator = f.denominator; numerator = f.numerator; least = rw s p.least; greatest = rw s p.greatest })
    (λ (e : eqb a.total 0 ≡ false).
    let n = eqb-false a.total 0 e in
    let s = shares-more above a (omega arith) in
    let small = share-small a (in-range a f.range) in
    record {
      few = few;
      denominator = f.denominator;
      numerator = f.numerator;
      least = rw (s, least_more (shares above) (share_of a)) (choice-small (eqb (length (shares above)) 0 || is_below (share_of a) (least_fraction (shares above))) (share_of a) (least_fraction (shares above)) small p.least);
      greatest = rw (s, greatest-fraction-more (shares above) (share_of a)) (choice-small (eqb (length (shares above)) 0 || is_below (greatest_fraction (shares above)) (share_of a)) (share_of a) (greatest_fraction (shares above)) small p.greatest);
    })

pub passed : (l : List Weights) → (running l).number ≡ 0 → Passed l
passed l z = running-keeps (λ above a. weights_fault above a false) Passed passed-more [] l passed_none z

-- one row more
pub running-row : (l : List Weights) (a : Weights) → (running l).number ≡ 0 → running (l ++ (a ∷ [])) ≡ fault_at (weights_fault l a false) (length l)
running-row l a z = running_more (λ above a. weights_fault above a false) [] l a ∙ rw (eq-eqb (running l).number 0 z)

-- after a faulty row nothing changes
pub running-stays : (l m : List Weights) → (running l).number ≢ 0 → running (l ++ m) ≡ running l
running-stays l [] n = rw (append-nil l)
running-stays l (a ∷ m) n =
    let r : running (l ++ (a ∷ [])) ≡ running l = running_more (λ above a. weights_fault above a false) [] l a ∙ rw (ne_eqb (running l).number 0 n) in
    ap running (sym (append_assoc l (a ∷ []) m)) ∙ running-stays (l ++ (a ∷ [])) m (λ z. n (sym (ap (λ (f : Fault). f.number) r) ∙ z)) ∙ r

-- the state after no rows
pub open-none : {s : Summed} → s ≡ summed [] → Open s []
unfolding deciding_fault
open-none e = record { none = refl; is = e }

module _ (s : Summed) (l : List Weights) (a : Weights) (o : Open s l) where
  pub weights-row-is : s.rows ≡ length l
  unfolding summed
  weights-row-is = ap (λ (x : Summed). x.rows) o.is

  pub row-few : s.rows ≤ election_limit
  row-few = let q = weights-row-is in let p = (passed l o.none).few in omega arith

  -- a faulty row
  answer-stops : (number : ℕ) → weights_fault l a false ≡ number → number ≢ 0 → running (l ++ (a ∷ [])) ≡ record { number = number; row = s.rows + 1 }
  answer-stops number f n =
      let q : suc (length l) ≡ s.rows + 1 = let p = weights-row-is in omega arith in
      running-row l a o.none ∙ rw (f, ne_eqb number 0 n, q)

  pub answer-range : out_of_range a ≡ true → running (l ++ (a ∷ [])) ≡ record { number = 2; row = s.rows + 1 }
  answer-range h = answer-stops 2 (fault-range l a h) (λ q. omega arith)

  module _ (h : out_of_range a ≡ false) where
    pub answer-place : election_limit ≤ s.rows → running (l ++ (a ∷ [])) ≡ record { number = 3; row = s.rows + 1 }
    answer-place p = let q = weights-row-is in answer-stops 3 (fault-place l a h (omega arith)) (λ q. omega arith)

    module _ (p : s.rows < election_limit) where
      -- there is room for it
      pub answer-room : Room s
      unfolding summed count_by sum_of
      answer-room =
          let k = passed l o.none in
          let i = o.is in
          record {
            rows = p;
            entered = rw i (shares-few l);
            won = rw i (filter-length is_won l);
            empty = rw i (filter-length is_empty l);
            divisor = rw i (common-positive (shares l) (shares-positive l));
          }

      -- a row without fault
      answer-adds : weights_fault l a false ≡ 0 → {r : Summed} → r ≡ summed (l ++ (a ∷ [])) → Open r (l ++ (a ∷ []))
      answer-adds f e =
          let r : running (l ++ (a ∷ [])) ≡ no_fault = running-row l a o.none ∙ rw f in
          record { none = ap (λ (x : Fault). x.number) r; is = e }

      row_next : length l + 1 ≡ length (l ++ (a ∷ []))
      row_next = sym (length-append l (a ∷ []))

      pub answer-empty : a.total ≡ 0 → Open (with_empty s) (l ++ (a ∷ []))
      unfolding summed
      answer-empty t =
          let k = passed l o.none in
          let i = o.is in
          let q = shares-empty l a t in
          let g = in-range a h in
          let w : is_won a ≡ false = le-ltb a.total (2 * a.greatest) (let x = g.together in omega arith) in
          let won : count_by is_won l ≡ count_by is_won (l ++ (a ∷ [])) = sym (count-more is_won l a ∙ rw w (omega arith)) in
          let empty : count_by is_empty l + 1 ≡ count_by is_empty (l ++ (a ∷ [])) = sym (count-more is_empty l a ∙ rw (eq-eqb a.total 0 t)) in
          let f : weights_fault l a false ≡ 0 = fault-none l a h (let n = weights-row-is in omega arith) (rw q k.denominator) (rw q k.numerator) in
          answer-adds f (rw i (rw (won, empty, row_next, ← q)))

      module _ (t : 0 < a.total) where
        -- what the code adds
        abbrev added : Fraction
        added = plus s.sum (share_of a)

        sum-next : sum_of (shares (l ++ (a ∷ []))) ≡ added
        unfolding summed
        sum-next =
            let i = o.is in
            rw (shares-more l a t, i) (sum_more (shares l) (share_of a) (shares-positive l) (lowest-positive a.greatest a.total t))

        -- the state with it, field by field
        with-sum-is : with_sum s a (share_of a) added ≡ summed (l ++ (a ∷ []))
        unfolding summed
        with-sum-is =
            let q = shares-more l a t in
            let i = o.is in
            let sum : added ≡ sum_of (shares (l ++ (a ∷ []))) = sym sum-next in
            let lower : cond (eqb (length (shares l)) 0 || is_below (share_of a) (least_fraction (shares l))) (share_of a) (least_fraction (shares l)) ≡ least_fraction (shares (l ++ (a ∷ []))) = rw q (sym (least_more (shares l) (share_of a))) in
            let higher : cond (eqb (length (shares l)) 0 || is_below (greatest_fraction (shares l)) (share_of a)) (share_of a) (greatest_fraction (shares l)) ≡ greatest_fraction (shares (l ++ (a ∷ []))) = rw q (sym (greatest-fraction-more (shares l) (share_of a))) in
            let entered : length (shares l) + 1 ≡ length (shares (l ++ (a ∷ []))) = rw q (sym (length-append (shares l) (share_of a ∷ []))) in
            let won = sym (count-more is_won l a) in
            let empty : count_by is_empty l ≡ count_by is_empty (l ++ (a ∷ [])) = sym (count-more is_empty l a ∙ rw (ne_eqb a.total 0 (λ x. omega arith)) (omega arith)) in
            ap (λ (x : Summed). with_sum x a (share_of a) added) i
            ∙ (λ j. record { rows = row_next j; sum = sum j; least = lower j; greatest = higher j; entered = entered j; won = won j; empty = empty j })

        -- the state with it, or that its sum does not fit
        pub answer-share : (wide : RowFault) → fault_of wide ≡ record { number = 17; row = s.rows + 1 } → SummedTo (l ++ (a ∷ [])) (ok_or (with_share s a) wide)
        unfolding with_share
        answer-share wide f =
            let m = sum-next in
            let few : length l < election_limit = let n = weights-row-is in omega arith in
            by (fits64 added.denominator && fits64 added.numerator)
            (λ (w : (fits64 added.denominator && fits64 added.numerator) ≡ true).
            let d = and_l (fits64 added.denominator) (fits64 added.numerator) w in
            let n = and_r (fits64 added.denominator) (fits64 added.numerator) w in
            rw w (answer-adds (fault-none l a h few (rw m d) (rw m n)) with-sum-is))
            (λ (w : (fits64 added.denominator && fits64 added.numerator) ≡ false). rw w (answer-stops 17 (fault-wide l a h few (rw m w)) (λ q. omega arith) ∙ sym f))

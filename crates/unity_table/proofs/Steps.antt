-- What the code answers for one row, one law for each return. Assumes nothing.
use mathlib.Core.Path.{◌≡◌, ap}
use mathlib.Core.Bool.{true, false, or-true}
use Prim.Native.Nat.{ℕ, ◌+◌, ◌≤◌, ◌<◌}
use native.Mathlib.Omega.{arith}
use borrow.Author.Tests.{lt-ltb, le-ltb, ltb-true, ltb-false}
use lib.Dec.{ltb}
use Rattle.std.specs.Prelude.{min, Some, None}
use Rattle.lists.proofs.Lists.{by}
use Rattle.fraction.specs.declared.Fraction.{Fraction}
use Rattle.fraction.specs.Bounded.{greatest64, bounded_fraction, plus, Addable}
use Rattle.fraction.proofs.Fractions.{lowest-positive, lowest-atmost}
use Rattle.fraction.proofs.Bounds.{fraction-told, fraction-wide}
use Rattle.unity_table.specs.declared.Weights.{Weights}
use Rattle.unity_table.specs.declared.Summed.{Summed}
use Rattle.unity_table.specs.Unity.{total_limit, share_of, out_of_range}
use Rattle.unity_table.specs.Summed.{Room, with_sum, with_share}
use Rattle.unity_table.proofs.Sums.{in-range}

-- the range of a row: a sum that does not fit is past every total
module _ (a : Weights) where
  pub range-total : total_limit < a.total → ltb total_limit a.total ≡ out_of_range a
  unfolding out_of_range
  range-total h = rw (lt-ltb total_limit a.total h, or-true (ltb a.total (a.greatest + a.silent)))

  pub range-sum : (sum : ℕ) → sum ≡ min (a.greatest + a.silent) greatest64 → a.total ≤ total_limit → ltb a.total sum ≡ out_of_range a
  unfolding out_of_range
  range-sum sum e few =
      by (ltb a.total (a.greatest + a.silent))
      (λ (q : ltb a.total (a.greatest + a.silent) ≡ true). let w = ltb-true a.total (a.greatest + a.silent) q in rw (q, lt-ltb a.total sum (omega arith)))
      (λ (q : ltb a.total (a.greatest + a.silent) ≡ false). let w = ltb-false a.total (a.greatest + a.silent) q in rw (q, le-ltb total_limit a.total few, le-ltb a.total sum (omega arith)))

module _ (s : Summed) (a : Weights) (m : Room s) (h : out_of_range a ≡ false) (t : 0 < a.total) where
  pub share-addable : Addable s.sum (share_of a)
  share-addable =
      let r = in-range a h in
      record { divisor = m.divisor; positive = lowest-positive a.greatest a.total t; atmost = lowest-atmost a.greatest a.total t (let x = r.together in omega arith) }

  pub group-kept : a.greatest ≤ total_limit
  group-kept = let r = in-range a h in let x = r.together in let y = r.limited in omega arith

  pub share-wide : None ≡ bounded_fraction (plus s.sum (share_of a)) → None ≡ with_share s a
  unfolding with_share
  share-wide e = let w = fraction-wide (plus s.sum (share_of a)) e in rw w

  pub share-fits : (sum : Fraction) → Some sum ≡ bounded_fraction (plus s.sum (share_of a)) → Some (with_sum s a (share_of a) sum) ≡ with_share s a
  unfolding with_share
  share-fits sum e =
      let w = fraction-told (plus s.sum (share_of a)) sum e in
      let f = w.fits in
      rw f (ap (λ (x : Fraction). Some (with_sum s a (share_of a) x)) w.value)

-- Noncommuting pairs without an order, and the edits that are not serialised. Assumes nothing.
use mathlib.Core.Path.{◌≡◌, refl, sym, ◌∙◌}
use mathlib.Core.Bool.{true, false, not, ◌||◌, or-false}
use mathlib.Core.List.{List}
use Prim.Native.Nat.{ℕ, ◌≤◌}
use native.Mathlib.Omega.{arith}
use native.Mathlib.Nat.{min-eq_left, min-eq_right, max-eq_left, max-eq_right}
use borrow.Author.Tests.{not-true, not-false}
use Rattle.record.specs.Record.{Record, written, has, notafter, noncommuting, WellFormed}
use Rattle.record.specs.Judgement.{never, ordered, serialised}
use Rattle.lists.proofs.Lists.{by, clash, or_l, or_r, or-no-l, or-no-r, any-among-by, not-any-all, all_in}
use Rattle.record.proofs.Records.{noncommuting-right, pair-by}
use Rattle.graph.specs.links.Resolved.{Resolved}

-- an order recorded either way, or one that can never stand
module _ (R : Record) (a b : ℕ) where
  pub ordered-never : never R a ≡ true → true ≡ ordered R a b
  unfolding ordered
  ordered-never e = sym (or_r (notafter R a b || notafter R b a) _ (or_l _ _ e))

  pub ordered-never-right : never R b ≡ true → true ≡ ordered R a b
  unfolding ordered
  ordered-never-right e = sym (or_r (notafter R a b || notafter R b a) _ (or_r (never R a) _ e))

  pub ordered-rows : never R a ≡ false → never R b ≡ false → (notafter R a b || notafter R b a) ≡ ordered R a b
  unfolding ordered
  ordered-rows p q = sym (rw (p, q) (or-false (notafter R a b || notafter R b a)))

ordered-swap : (R : Record) (a b : ℕ) → ordered R a b ≡ false → ordered R b a ≡ false
unfolding ordered
ordered-swap R a b h =
    let u = or-no-l (notafter R a b || notafter R b a) _ h in
    let v = or-no-r (notafter R a b || notafter R b a) _ h in
    rw (or-no-l (notafter R a b) _ u, or-no-r (notafter R a b) _ u, or-no-l (never R a) _ v, or-no-r (never R a) _ v)

-- an edit with a partner and no order between them is not serialised
module _ (R : Record) (w : WellFormed R) where
  open-partner : (a b : ℕ) → noncommuting R a b ≡ true → ordered R a b ≡ false → serialised R a ≡ false
  unfolding serialised
  open-partner a b n o =
      by (serialised R a)
      (λ s. let u = all_in (λ b. not (noncommuting R a b) || ordered R a b) (written R) s b (noncommuting-right w a b n) in clash (rw (n, o) at u) refl)
      (λ s. s)

  open_by {ℓ} : {P : Type ℓ} (a : ℕ) → serialised R a ≡ false → ((b : ℕ) → noncommuting R a b ≡ true → ordered R a b ≡ false → P) → P
  unfolding serialised
  open_by a s f =
      any-among-by (λ b. not (not (noncommuting R a b) || ordered R a b)) (written R) (not-any-all (λ b. not (noncommuting R a b) || ordered R a b) (written R) ∙ rw s)
      (λ b i e. f b (not-false _ (or-no-l (not (noncommuting R a b)) _ (not-true _ e))) (or-no-r (not (noncommuting R a b)) _ (not-true _ e)))

module _ (R : Record) (rows : List ℕ) (g : Resolved R rows) where
  pair_is : (a b : ℕ) → has a 2 b R.constraints ≡ true → noncommuting R a b ≡ true
  pair_is a b h = let l : a ≤ b = omega (arith, g.paired a b h) in rw (min-eq_left l, max-eq_right l) h

  pair-swapped : (a b : ℕ) → has a 2 b R.constraints ≡ true → noncommuting R b a ≡ true
  pair-swapped a b h = let l : a ≤ b = omega (arith, g.paired a b h) in rw (min-eq_right l, max-eq_left l) h

  pub open-left : (a b : ℕ) → has a 2 b R.constraints ≡ true → ordered R a b ≡ false → serialised R a ≡ false
  open-left a b h o = open-partner R g.formed a b (pair_is a b h) o

  pub open-right : (a b : ℕ) → has a 2 b R.constraints ≡ true → ordered R a b ≡ false → serialised R b ≡ false
  open-right a b h o = open-partner R g.formed b a (pair-swapped a b h) (ordered-swap R a b o)

  -- an edit that is not serialised is an end of a stored pair without an order
  pub open-pair-by {ℓ} : {P : Type ℓ} (x : ℕ) → serialised R x ≡ false
      → ((b : ℕ) → has x 2 b R.constraints ≡ true → ordered R x b ≡ false → P)
      → ((a : ℕ) → has a 2 x R.constraints ≡ true → ordered R a x ≡ false → P) → P
  open-pair-by x s f k =
      open_by R g.formed x s
      (λ y n o. pair-by x y (λ p q. f y (rw (p, q) at n) o) (λ p q. k y (rw (p, q) at n) (ordered-swap R x y o)))

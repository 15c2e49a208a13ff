-- Costs that are witnessed, and that no link makes less, are least; and the lowest step at each name gives the lowest of the shortest rows. Assumes nothing.
use mathlib.Core.Path.{◌≡◌, refl, sym, ap, ◌∙◌}
use mathlib.Core.Bool.{Bool, true, false}
use mathlib.Core.List.{List, [], ◌∷◌, ◌++◌}
use Prim.Native.Nat.{ℕ, suc, ◌+◌, ◌≤◌, ◌<◌}
use native.Mathlib.Omega.{arith}
use lib.ListN.{length, length-append}
use borrow.Author.Tests.{ne_eqb, le-ltb}
use Rattle.lists.specs.Lists.{mem, distinct, ◌among◌}
use Rattle.reasons.specs.Reasons.{lower, WalkAlong, alone, onward}
use Rattle.reasons.specs.Costs.{Ending, Route, goal_met, linked_on, Best, Costing, LowestSteps, last_step, next_step}
use Rattle.lists.proofs.Lists.{by, is-by, mem-head, mem-tail, cons-by, nil-no, distinct-length}
use Rattle.reasons.proofs.Paths.{walk-within}
use Rattle.reasons.proofs.Reasons.{lower-tail}

-- no row is lower than one with a lower first name
pub above-head : (x y : ℕ) (a b : List ℕ) → y < x → lower (x ∷ a) (y ∷ b) ≡ false
unfolding lower
above-head x y a b h = let l : y ≤ x = omega arith in rw (le-ltb x y l, ne_eqb x y (λ e. omega arith))

-- A row is a walk to a goal, and one of the goal's tails.
pub record Split (link : ℕ → ℕ → Bool) (Tail : Ending) (x : ℕ) (row : List ℕ) : Type 0 where
  pub meet : ℕ
  pub chain : List ℕ
  pub tail : List ℕ
  pub walk : WalkAlong link x meet chain
  pub ends : Tail meet tail
  pub joined : row ≡ chain ++ tail

-- the costs of the names of a walk are at most so much, and its names distinct
pub record Falls (cost : ℕ → ℕ) (chain : List ℕ) (most : ℕ) : Type 0 where
  pub below : (y : ℕ) → y among chain → cost y ≤ most
  pub apart : distinct chain ≡ true

module _ {link : ℕ → ℕ → Bool} {Tail : Ending} where
  pub route-split : {x : ℕ} {row : List ℕ} → Route link Tail x row → Split link Tail x row
  route-split (goal_met {x} {tail} t) = record { meet = x; chain = x ∷ []; tail = tail; walk = alone; ends = t; joined = refl }
  route-split (linked_on {x} l r) =
      let s = route-split r in
      record { meet = s.meet; chain = x ∷ s.chain; tail = s.tail; walk = onward l s.walk; ends = s.ends; joined = ap (λ u. x ∷ u) s.joined }

  pub walk-route : {x m : ℕ} {chain : List ℕ} → WalkAlong link x m chain → (tail : List ℕ) → Tail m tail → Route link Tail x (chain ++ tail)
  walk-route alone tail t = goal_met t
  walk-route (onward l w) tail t = linked_on l (walk-route w tail t)

  pub route-head : {x : ℕ} {row : List ℕ} → Route link Tail x row → (rest : List ℕ) × (row ≡ x ∷ rest)
  route-head (goal_met {tail} t) = (tail, refl)
  route-head (linked_on {row} l r) = (row, refl)

module _ {link : ℕ → ℕ → Bool} {Tail : Ending} {top : ℕ} {cost : ℕ → ℕ} (c : Costing link Tail top cost) where
  -- no row is shorter than its cost
  pub cost-least : {x : ℕ} {row : List ℕ} → Route link Tail x row → cost x ≤ length row
  cost-least (goal_met {x} {tail} t) = c.goal x tail t
  cost-least (linked_on {x} {y} l r) = omega (arith, c.step x y l, cost-least r)

  -- the lowest steps are a row, of that cost
  pub steps-route : {x : ℕ} {row : List ℕ} → LowestSteps link Tail cost x row → Route link Tail x row
  steps-route (last_step b n f) = goal_met b.given
  steps-route (next_step l n f g s) = linked_on l (steps-route s)

  pub steps-cost : {x : ℕ} {row : List ℕ} → LowestSteps link Tail cost x row → length row ≡ cost x
  steps-cost (last_step b n f) = n
  steps-cost (next_step l n f g s) = ap suc (steps-cost s) ∙ n

  -- a step of a shortest row costs one less
  step-exact : {x y : ℕ} {row : List ℕ} (l : link x y ≡ true) → Route link Tail y row → suc (length row) ≡ cost x → suc (cost y) ≡ cost x
  step-exact {x} {y} l r n = omega (arith, c.step x y l, cost-least r)

  -- and no other row of that cost is lower
  steps-low : {x : ℕ} {row : List ℕ} → LowestSteps link Tail cost x row → {other : List ℕ} → Route link Tail x other → length other ≡ length row
      → lower other row ≡ false
  steps-low (last_step {x} {tail} b n f) (goal_met {tail = other} t) m = lower-tail x other tail ∙ b.lowest other t (omega arith)
  steps-low (last_step {x} {tail} b n f) (linked_on {y} {row} l r) m =
      let d = f y l (step-exact l r (omega arith)) in
      let s = route-head r in
      lower-tail x row tail ∙ rw (s.1, d.1.1.0) (above-head y d.0 s.0 d.1.0 d.1.1.1)
  steps-low (next_step {x} {y} {row} l n f g s) (goal_met {tail} t) m =
      let d = g tail t (omega (arith, steps-cost s)) in
      let h = route-head (steps-route s) in
      lower-tail x tail row ∙ rw (h.1, d.1.1.0) (above-head d.0 y d.1.0 h.0 d.1.1.1)
  steps-low (next_step {x} {y} {row} l n f g s) (linked_on {y = z} {row = other} k r) m =
      let q = step-exact k r (omega (arith, steps-cost s)) in
      let h = route-head (steps-route s) in
      let o = route-head r in
      lower-tail x other row ∙ is-by y z
      (λ e. steps-low s (rw (← e) at r) (omega arith))
      (λ e. let v : y < z = omega (arith, f z k q) in rw (h.1, o.1) (above-head z y o.0 h.0 v))

  -- The lowest steps are the best row.
  pub steps-best : {x : ℕ} {row : List ℕ} → LowestSteps link Tail cost x row → Best (Route link Tail x) row
  steps-best s = record {
    given = steps-route s;
    fewest = λ other r. omega (arith, steps-cost s, cost-least r);
    lowest = λ other r m. steps-low s r m;
  }

  route-on {ℓ} : {P : Type ℓ} {x : ℕ} {row : List ℕ} → Route link Tail x row → length row ≡ cost x
      → ((tail : List ℕ) → Tail x tail → suc (length tail) ≡ cost x → P) → ((y : ℕ) → link x y ≡ true → suc (cost y) ≡ cost x → P) → P
  route-on (goal_met {tail} t) n f g = f tail t n
  route-on (linked_on {y} l r) n f g = g y l (step-exact l r n)

  -- below the top there is always a step
  pub steps-on {ℓ} : {P : Type ℓ} (x : ℕ) → cost x < top → ((tail : List ℕ) → Tail x tail → suc (length tail) ≡ cost x → P)
      → ((y : ℕ) → link x y ≡ true → suc (cost y) ≡ cost x → P) → P
  steps-on x h f g = let w = c.witness x h in route-on w.1.0 w.1.1 f g

  -- Costs fall by one at each link of a shortest row, so that its names up to the goal are distinct.
  pub walk-least : {x m : ℕ} {chain : List ℕ} → WalkAlong link x m chain → cost x + 1 ≤ length chain + cost m
  walk-least alone = omega arith
  walk-least (onward {x} {y} l w) = omega (arith, c.step x y l, walk-least w)

  pub falls : {x m : ℕ} {chain : List ℕ} → WalkAlong link x m chain → length chain + cost m ≡ cost x + 1 → Falls cost chain (cost x)
  unfolding mem distinct
  falls (alone {x}) n = record { below = λ y i. cons-by y x [] i (λ e. rw e (omega arith)) (nil-no y); apart = refl }
  falls (onward {x} {y} {row} l w) n =
      let k : suc (cost y) ≡ cost x = omega (arith, c.step x y l, walk-least w) in
      let f = falls w (omega arith) in
      record {
        below = λ z i. cons-by z x row i (λ e. rw e (omega arith)) (λ j. omega (arith, f.below z j));
        apart = rw (by (mem x row) (λ j. absurd (omega (arith, f.below x j))) (λ j. j)) f.apart;
      }

  -- the walk of a shortest row is so
  pub shortest-walk : {x m : ℕ} {chain : List ℕ} → WalkAlong link x m chain → (tail : List ℕ) → Tail m tail → length chain + length tail ≡ cost x
      → length chain + cost m ≡ cost x + 1
  shortest-walk {m} w tail t n = omega (arith, walk-least w, c.goal m tail t)

  -- such a walk has no more names than there are
  pub walk-few : (names : List ℕ) → ((x y : ℕ) → link x y ≡ true → y among names) → {x m : ℕ} {chain : List ℕ} → WalkAlong link x m chain → x among names
      → length chain + cost m ≡ cost x + 1 → length chain ≤ length names
  walk-few names known {chain} w i n = distinct-length chain names (falls w n).apart (walk-within names known w i)

  -- every name that has a row is below the top, where the top is high enough
  module _ (names : List ℕ) (most : ℕ) (known : (x y : ℕ) → link x y ≡ true → y among names)
      (goals : (x : ℕ) (tail : List ℕ) → Tail x tail → cost x ≤ most) (high : suc (length names) + most < top) where
    pub cost-bound : (x : ℕ) → cost x < top → cost x ≤ length names + most
    cost-bound x h =
        let w = c.witness x h in
        let s = route-split w.1.0 in
        let n : length s.chain + length s.tail ≡ cost x = sym (length-append s.chain s.tail) ∙ (ap length (sym s.joined) ∙ w.1.1) in
        let q = shortest-walk s.walk s.tail s.ends n in
        let few = walk-few (x ∷ names) (λ a b l. mem-tail b x names (known a b l)) s.walk (mem-head x names) q in
        omega (arith, few, goals s.meet s.tail s.ends)

    pub cost-finite : {x : ℕ} {row : List ℕ} → Route link Tail x row → cost x < top
    cost-finite (goal_met {x} {tail} t) = omega (arith, goals x tail t)
    cost-finite (linked_on {x} {y} l r) = omega (arith, c.step x y l, cost-bound y (cost-finite r))

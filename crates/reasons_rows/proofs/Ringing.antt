-- The least ring of a set from an edit: how long it is, and which. Assumes nothing.
use mathlib.Core.Path.{◌≡◌, refl, ap}
use mathlib.Core.Bool.{true, false}
use mathlib.Core.List.{List, [], append-nil}
use Prim.Native.Nat.{ℕ, ◌+◌, ◌≤◌, ◌<◌}
use native.Mathlib.Omega.{arith}
use lib.ListN.{length, get_or}
use Rattle.lists.specs.Lists.{mem, ◌among◌}
use Rattle.record.specs.Record.{Record, names, notafter}
use Rattle.graph.specs.links.Marks.{name_at}
use Rattle.graph.specs.links.Links.{Leads}
use Rattle.lists.proofs.Lists.{clash, le-by}
use Rattle.reasons.specs.Reasons.{lower}
use Rattle.reasons.specs.Costs.{Route, goal_met, linked_on, Best}
use Rattle.reasons.specs.Given.{notafter_within}
use Rattle.reasons.specs.Aims.{back_to, Closes, RingFrom}
use Rattle.reasons.proofs.Costs.{cost-least, cost-bound, cost-finite, steps-best}
use Rattle.reasons_costs.specs.declared.Search.{Search}
use Rattle.reasons_costs.specs.declared.row.LeastRow.{LeastRow}
use Rattle.reasons_costs.specs.Searches.{unreached, Searches, cost_at, LeastCosts, named, Descended}
use Rattle.reasons_costs.proofs.Least.{cost-at}
use Rattle.reasons_rows.specs.Rings.{RingLength}
use Rattle.reasons_rows.proofs.Aiming.{inside-parts}

-- a tail without names is the best
pub nil-best : (P : List ℕ → Type 0) → P [] → Best P []
unfolding lower
nil-best P p = record {
  given = p;
  fewest = λ o q. omega arith;
  lowest = λ o q n. refl;
}

module _ (R : Record) (t : List ℕ) {rows : List ℕ} (g : Leads (notafter R) R 0 rows) where
  ring-member : (m : ℕ) {x : ℕ} {row : List ℕ} → Route (notafter_within R t) (Closes R t m) x row → x among t
  ring-member m (goal_met {x} k) = (inside-parts R t g x m k.0).1.1
  ring-member m (linked_on {x} {y} l r) = (inside-parts R t g x y l).1.1

  -- an edit outside the set has none
  pub ringless : (r : ℕ) → mem r t ≡ false → RingLength R t r unreached
  ringless r e = record {
    most = omega arith;
    given = λ h. absurd (omega arith);
    least = λ ring u. clash (ring-member r u) e;
    short = λ ring u. clash (ring-member r u) e;
  }

  module _ (r : ℕ) (low : r < length (names R)) {costs : List ℕ} (c : LeastCosts R (back_to t (name_at R r)) costs) where
    ring-cost : cost_at R costs (name_at R r) ≡ get_or costs r 0
    ring-cost = cost-at R g.apart costs r low

    one-goal : (y : ℕ) (u : List ℕ) → Closes R t (name_at R r) y u → cost_at R costs y ≤ 1
    one-goal y u q = omega (arith, c.costing.goal y u q, ap length q.1)

    inside-known : (x y : ℕ) → notafter_within R t x y ≡ true → y among names R
    inside-known x y e = (inside-parts R t g x y e).1.0

    pub ring-finite : {ring : List ℕ} → RingFrom R t (name_at R r) ring → get_or costs r 0 < unreached
    ring-finite q = omega (arith, ring-cost, cost-finite c.costing (names R) 1 inside-known one-goal (omega (arith, g.few)) q)

    pub ring-length : (v : ℕ) → (get_or costs r 0 < unreached → v ≡ get_or costs r 0 + 1) → (unreached ≤ get_or costs r 0 → v ≡ unreached)
        → RingLength R t (name_at R r) v
    ring-length v p q = record {
      most = le-by unreached (get_or costs r 0) (λ k. omega (arith, q k)) (λ k. omega (arith, p k));
      given = λ h. le-by unreached (get_or costs r 0) (λ k. absurd (omega (arith, q k)))
          (λ k. let w = c.costing.witness (name_at R r) (omega (arith, ring-cost)) in (w.0, (w.1.0, omega (arith, w.1.1, ring-cost, p k))));
      least = λ ring u. omega (arith, cost-least c.costing u, ring-cost, p (ring-finite u));
      short = λ ring u.
          let b = cost-bound c.costing (names R) 1 inside-known one-goal (omega (arith, g.few)) (name_at R r) (omega (arith, ring-cost, ring-finite u)) in
          omega (arith, b, g.few, ring-cost, p (ring-finite u));
    }

    -- The lowest steps are the least ring.
    pub ring-best : {s : Search} → Searches R (back_to t (name_at R r)) s → {row : LeastRow} → Descended R (back_to t (name_at R r)) s.goals costs r row
        → Best (RingFrom R t (name_at R r)) (named R row)
    ring-best a {row} d =
        let k = a.tail row.last d.last-low (omega (arith, d.goal-cost, d.finite)) in
        let b = nil-best (Closes R t (name_at R r) (name_at R row.last)) (k.1.0.0, refl) in
        steps-best c.costing (rw (append-nil (named R row)) at (d.steps [] b (d.at-goal [] b)))

-- The searches of Aims.antt give reasons: a row of each is a walk or a ring, and the lowest steps along least costs give the least reason. Assumes nothing.
use mathlib.Core.Path.{◌≡◌, refl}
use mathlib.Core.Bool.{Bool, true}
use mathlib.Core.Logic.{◌⊎◌}
use mathlib.Core.List.{List, [], ◌∷◌, ◌++◌}
use Prim.Native.Nat.{ℕ, ◌≤◌, ◌<◌}
use native.Mathlib.Omega.{arith}
use lib.ListN.{length}
use Rattle.lists.specs.Lists.{mem, ◌among◌, ◌within◌}
use Rattle.record.specs.Record.{Record, notafter, enables, WellFormed}
use Rattle.record.specs.Schedule.{needs}
use Rattle.record.specs.Judgement.{sound}
use Rattle.reasons.specs.Reasons.{WalkAlong, alone, onward, MustReason, enabled_by, NeverReason, must_by, never_by, Least}
use Rattle.reasons.specs.Given.{notafter_within}
use Rattle.reasons.specs.Costs.{Ending, Route, goal_met, linked_on, Costing, LowestSteps}
use Rattle.reasons.specs.Aims.{Init, Closes, RingFrom}
use Rattle.lists.proofs.Lists.{is-by, and_l, and_r, and_i, mem-head, mem-tail, cons-within, one-within}
use Rattle.record.proofs.Order.{needs-is}
use Rattle.reasons.proofs.Reasons.{walk-head, walk-links, names-links, WalkInto, must-least, never-least}
use Rattle.reasons.proofs.Costs.{above-head, walk-route, route-head, cost-least, steps-cost, steps-best}

-- A walk to 0 is a route to 0.
module _ {link : ℕ → ℕ → Bool} where
  pub route-ends : {x : ℕ} {row : List ℕ} → Route link Init x row → WalkAlong link x 0 row
  route-ends (goal_met t) = rw (t.0, t.1) alone
  route-ends (linked_on l r) = onward l (route-ends r)

  pub ends-route : {x : ℕ} {row : List ℕ} → WalkAlong link x 0 row → Route link Init x row
  ends-route alone = goal_met (refl, refl)
  ends-route (onward l w) = linked_on l (ends-route w)

-- A walk inside t whose last is notafter r is a route that r closes.
module _ (R : Record) (t : List ℕ) (r : ℕ) where
  route-shut : {x : ℕ} {row : List ℕ} → Route (notafter_within R t) (Closes R t r) x row → WalkInto R t x r row
  unfolding notafter_within
  route-shut (goal_met {x} k) = rw k.1 (record {
    last = x;
    walk = alone;
    closed = and_l _ _ k.0;
    members = one-within x t (and_l (mem x t) (mem r t) (and_r (notafter R x r) _ k.0));
  })
  route-shut (linked_on {x} {y} {row} l k) =
      let s = route-shut k in record {
        last = s.last;
        walk = onward (and_l _ _ l) s.walk;
        closed = s.closed;
        members = cons-within x row t (and_l (mem x t) (mem y t) (and_r (notafter R x y) _ l)) s.members;
      }

  pub shut-route : {x z : ℕ} {row : List ℕ} → WalkAlong (notafter R) x z row → notafter R z r ≡ true → r among t → row within t
      → Route (notafter_within R t) (Closes R t r) x row
  unfolding notafter_within
  shut-route (alone {x}) k i h = goal_met (and_i _ _ k (and_i _ _ (h x (mem-head x [])) i), refl)
  shut-route (onward {x} {y} {row} l w) k i h =
      linked_on (and_i _ _ l (and_i _ _ (h x (mem-head x row)) (h y (mem-tail y x row (walk-head w)))))
      (shut-route w k i (λ z j. h z (mem-tail z x row j)))

-- the rings of what e needs
abbrev pub NeededRing : Record → ℕ → Ending
NeededRing R e = RingFrom R (needs R (0 ∷ e ∷ []))

module _ (R : Record) (w : WellFormed R) (e : ℕ) where
  -- a never reason is a route from its start
  pub reason-route : {c r : List ℕ} (n : NeverReason R e c r) → Route (enabled_by R) (NeededRing R e) n.start (c ++ r)
  reason-route {r} n =
      let h : r within needs R (0 ∷ e ∷ []) = λ x i. (needs-is R w e x).0 (n.needed x i) in
      walk-route n.chained r (shut-route R (needs R (0 ∷ e ∷ [])) n.meet n.ringed n.closed (h n.meet (walk-head n.ringed)) h)

  pub route-reason : {s m : ℕ} {c r : List ℕ} → (s ≡ 0) ⊎ (s ≡ e) → WalkAlong (enabled_by R) s m c → NeededRing R e m r → NeverReason R e c r
  route-reason {s} {m} f k g =
      let u = route-shut R (needs R (0 ∷ e ∷ [])) m g in
      record {
        start = s;
        meet = m;
        last = u.last;
        from = f;
        chained = k;
        ringed = u.walk;
        closed = u.closed;
        needed = λ x i. (needs-is R w e x).1 (u.members x i);
      }

module _ (R : Record) (w : WellFormed R) (h : sound R ≡ true) (e : ℕ) where
  -- must: costs along enables to 0, and the lowest steps from e
  pub must-given : {top : ℕ} {cost : ℕ → ℕ} → Costing (enables R) Init top cost → {chain : List ℕ} → LowestSteps (enables R) Init cost e chain
      → Least R e (must_by chain)
  must-given c {chain} s =
      let b = steps-best c s in
      let g : MustReason R e chain = route-ends b.given in
      must-least R w h e g
      (λ d k. omega (arith, b.fewest d (ends-route k), walk-links k, walk-links g))
      (λ d k n. b.lowest d (ends-route k) (omega (arith, walk-links k, walk-links g)))

  -- never: costs along enablers to rings, and the lowest steps from 0 or e, whichever costs less, of equals the lower
  pub never-given : {top : ℕ} {cost : ℕ → ℕ} → Costing (enabled_by R) (NeededRing R e) top cost
      → {s m : ℕ} {c r : List ℕ} → (s ≡ 0) ⊎ (s ≡ e) → ((o : ℕ) → (o ≡ 0) ⊎ (o ≡ e) → cost s ≤ cost o)
      → ((o : ℕ) → (o ≡ 0) ⊎ (o ≡ e) → cost s ≡ cost o → s ≤ o)
      → WalkAlong (enabled_by R) s m c → NeededRing R e m r
      → LowestSteps (enabled_by R) (NeededRing R e) cost s (c ++ r) → Least R e (never_by c r)
  never-given {cost} k {s} {c} {r} f least lowest walk ring steps =
      let b = steps-best k steps in
      let g = route-reason R w e f walk ring in
      never-least R w h e g
      (λ d t n. omega (
        arith,
        least n.start n.from,
        steps-cost k steps,
        cost-least k (reason-route R w e n),
        names-links R e (never_by c r) g,
        names-links R e (never_by d t) n,
      ))
      (λ d t n q.
      let p = reason-route R w e n in
      let same : length (d ++ t) ≡ length (c ++ r) = omega (arith, names-links R e (never_by c r) g, names-links R e (never_by d t) n) in
      is-by s n.start
      (λ i. b.lowest (d ++ t) (rw (← i) at p) same)
      (λ i. let v : s < n.start = omega (arith, least n.start n.from, lowest n.start n.from, steps-cost k steps, cost-least k p) in
      let x = route-head p in
      let y = route-head b.given in
      rw (x.1, y.1) (above-head n.start s x.0 y.0 v)))

-- The lowest rows of the two searches for chains are the least reason. Assumes nothing.
use mathlib.Core.Path.{◌≡◌, refl, ap}
use mathlib.Core.Bool.{true}
use mathlib.Core.Logic.{◌⊎◌, inl, inr}
use mathlib.Core.List.{List, [], ◌∷◌, append-nil}
use Prim.Native.Nat.{ℕ, ◌≤◌, ◌<◌}
use native.Mathlib.Omega.{arith}
use lib.ListN.{length, get_or}
use Rattle.lists.specs.Lists.{index_of}
use Rattle.record.specs.Record.{Record, names}
use Rattle.record.specs.Schedule.{needs}
use Rattle.record.specs.Judgement.{sound, must, never}
use Rattle.record.proofs.Judged.{must-is, never-is}
use Rattle.graph.specs.links.Marks.{name_at}
use Rattle.graph.specs.links.Resolved.{Resolved}
use Rattle.lists.proofs.Lists.{mem_index}
use Rattle.graph.proofs.links.Names.{get_or-among, get_or-place}
use Rattle.graph.proofs.links.Marks.{name-zero}
use Rattle.judgement_marks.proofs.Standing.{names-some}
use Rattle.reasons.specs.Reasons.{Least, must_by, never_by, enabled_by}
use Rattle.reasons.specs.Costs.{Route, Best}
use Rattle.reasons.specs.Aims.{to_init, to_ring, Init, RingFrom}
use Rattle.reasons.proofs.Reasons.{must-exists, never-exists}
use Rattle.reasons.proofs.Costs.{cost-finite}
use Rattle.reasons.proofs.Aimed.{ends-route, must-given, reason-route, never-given}
use Rattle.reasons_costs.specs.declared.Search.{Search}
use Rattle.reasons_costs.specs.declared.row.LeastRow.{LeastRow}
use Rattle.reasons_costs.specs.Searches.{unreached, Searches, cost_at, LeastCosts, named, Descended}
use Rattle.reasons_costs.proofs.Least.{cost-at}
use Rattle.reasons_rows.specs.Rings.{ShortRings, StartAt}
use Rattle.reasons_rows.proofs.Aiming.{ring-known}
use Rattle.reasons_rows.proofs.Ringing.{nil-best}

module _ (R : Record) {rows : List ℕ} (g : Resolved R rows) (o : sound R ≡ true) (x : ℕ) (low : x < length (names R)) where
  module _ {costs : List ℕ} (c : LeastCosts R to_init costs) where
    -- an edit that must stand has a row to INIT
    pub must-finite : must R (name_at R x) ≡ true → get_or costs x 0 < unreached
    must-finite m =
        let e = must-exists R g.formed o (name_at R x) ((must-is R g.formed o (name_at R x)).0 m) in
        omega (
          arith,
          cost-at R g.notafters.apart costs x low,
          cost-finite c.costing (names R) 1 (λ a b l. (g.enablers.row_of a b l).right-known) (λ y t q. omega (arith, c.costing.goal y t q, ap length q.1))
              (omega (arith, g.notafters.few)) (ends-route e.1),
        )

    pub must-returns : {s : Search} → Searches R to_init s → {row : LeastRow} → Descended R to_init s.goals costs x row
        → Least R (name_at R x) (must_by (named R row))
    must-returns a {row} d =
        let k = a.tail row.last d.last-low (omega (arith, d.goal-cost, d.finite)) in
        let b = nil-best (Init (name_at R row.last)) (k.1.0.0, refl) in
        must-given R g.formed o (name_at R x) c.costing (rw (append-nil (named R row)) at (d.steps [] b (d.at-goal [] b)))

  abbrev t : List ℕ
  t = needs R (0 ∷ name_at R x ∷ [])

  module _ {s : Search} (a : Searches R (to_ring t) s × ShortRings R t s.goals) {costs : List ℕ} (c : LeastCosts R (to_ring t) costs) where
    -- a member with a ring costs no more than its shortest ring
    ring-goals : (y : ℕ) (u : List ℕ) → RingFrom R t y u → cost_at R costs y ≤ 130
    ring-goals y u q =
        let i = ring-known R t g.notafters y q in
        let h = mem_index y (names R) i in
        let e = get_or-place y (names R) i in
        let n = a.1 (index_of y (names R)) u h (rw (← e) at q) in
        let k = rw e at (a.0.tail (index_of y (names R)) h (omega (arith, n))) in
        omega (arith, n, c.costing.goal y k.0 k.1.0, k.1.1)

    route-finite : {y : ℕ} {row : List ℕ} → Route (enabled_by R) (RingFrom R t) y row → cost_at R costs y < unreached
    route-finite r = cost-finite c.costing (names R) 130 (λ a b l. (g.enablers.row_of b a l).left-known) ring-goals (omega (arith, g.notafters.few)) r

    cost-zero : cost_at R costs 0 ≡ get_or costs 0 0
    cost-zero = rw (name-zero R) at (cost-at R g.notafters.apart costs 0 (names-some R))

    cost-edit : cost_at R costs (name_at R x) ≡ get_or costs x 0
    cost-edit = cost-at R g.notafters.apart costs x low

    module _ (start : ℕ) (z : StartAt costs x start) where
      pub start-known : start < length (names R)
      start-known = elim z [ inl q ↦ rw q.0 (names-some R) | inr q ↦ rw q.0 low ]

      start-from : (name_at R start ≡ 0) ⊎ (name_at R start ≡ name_at R x)
      start-from = elim z [ inl q ↦ inl (rw q.0 (name-zero R)) | inr q ↦ inr (rw q.0 refl) ]

      -- the cost of the start is the lower of both
      start-lower : (get_or costs start 0 ≤ get_or costs 0 0) × (get_or costs start 0 ≤ get_or costs x 0)
      start-lower = elim z [ inl q ↦ rw q.0 (omega arith, q.1) | inr q ↦ rw q.0 (omega (arith, q.1), omega arith) ]

      start-cost : cost_at R costs (name_at R start) ≡ get_or costs start 0
      start-cost = cost-at R g.notafters.apart costs start start-known

      start-least : (y : ℕ) → (y ≡ 0) ⊎ (y ≡ name_at R x) → cost_at R costs (name_at R start) ≤ cost_at R costs y
      start-least y d = elim d [
        | inl q ↦ rw q (omega (arith, start-cost, cost-zero, start-lower.0))
        | inr q ↦ rw q (omega (arith, start-cost, cost-edit, start-lower.1))
      ]

      start-lowest : (y : ℕ) → (y ≡ 0) ⊎ (y ≡ name_at R x) → cost_at R costs (name_at R start) ≡ cost_at R costs y → name_at R start ≤ y
      start-lowest y d e = elim z [
        | inl q ↦ rw (q.0, name-zero R) (omega arith)
        | inr q ↦ elim d [
          | inl u ↦ absurd (omega (arith, rw (q.0, u) at e, cost-zero, cost-edit, q.1))
          | inr u ↦ rw (q.0, u) (omega arith)
        ]
      ]

      pub never-finite : never R (name_at R x) ≡ true → get_or costs start 0 < unreached
      never-finite n =
          let k = never-exists R g.formed (name_at R x) (get_or-among (names R) x low) ((never-is R g.formed (name_at R x)).0 n) in
          let r = k.1.1 in
          omega (arith, start-cost, start-least r.start r.from, route-finite (reason-route R g.formed (name_at R x) r))

      pub never-returns : (chain ring : LeastRow) → Descended R (to_ring t) s.goals costs start chain
          → ((u : List ℕ) → RingFrom R t (name_at R chain.last) u → Best (RingFrom R t (name_at R chain.last)) (named R ring))
          → Least R (name_at R x) (never_by (named R chain) (named R ring))
      never-returns chain ring d f =
          let k = a.0.tail chain.last d.last-low (omega (arith, d.goal-cost, d.finite)) in
          let b = f k.0 k.1.0 in
          never-given R g.formed o (name_at R x) c.costing start-from start-least start-lowest d.walk b.given (d.steps (named R ring) b (d.at-goal (named R ring) b))

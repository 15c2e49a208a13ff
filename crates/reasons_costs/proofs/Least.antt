-- Settled costs are least: each below the top is that of some row, and no goal and no link makes one less. Assumes nothing.
use mathlib.Core.Path.{◌≡◌, sym, ap, ◌∙◌}
use mathlib.Core.Bool.{true, false}
use mathlib.Core.List.{List, ◌∷◌}
use Prim.Native.Nat.{ℕ, suc, ◌≤◌, ◌<◌}
use native.Mathlib.Omega.{arith}
use lib.ListN.{length, get_or, set}
use lib.Seq.{get_or-set_same, get_or-set_other}
use Rattle.lists.specs.Lists.{mem, index_of, ◌among◌, distinct}
use Rattle.lists.proofs.Lists.{by, is-by, le-by, mem_index}
use Rattle.record.specs.Record.{Record, names}
use Rattle.graph.specs.links.Marks.{name_at}
use Rattle.graph.specs.links.Links.{LinkedByKey}
use Rattle.graph.specs.links.Reach.{On}
use Rattle.graph.specs.links.Resolved.{Resolved}
use Rattle.graph.proofs.links.Marks.{marks-on, on-marks}
use Rattle.graph.proofs.links.Names.{get_or-among, get_or-place, place-get_or}
use Rattle.reasons.specs.Costs.{Route, goal_met, linked_on}
use Rattle.reasons.specs.Aims.{Aim, link_of, scope_of, TailOf}
use Rattle.reasons_costs.specs.declared.Relation.{Relation}
use Rattle.reasons_costs.specs.declared.Search.{Search}
use Rattle.reasons_costs.specs.Searches.{unreached, relation_of, Searches, cost_at, LeastCosts}
use Rattle.reasons_costs.specs.Levels.{LinkBelow, Improves, unchanged, improved}
use Rattle.reasons_costs.proofs.Links.{relation_keys, relation-keys-linked, link-known, link-there, link-holds, aim-linked, aim-links}
use Rattle.reasons_costs.proofs.Relaxing.{get_or-inside}
use Rattle.reasons_costs.proofs.Settling.{SettledBelow, settled-early}

pub cost-known : (R : Record) (costs : List ℕ) (x : ℕ) → x among names R → cost_at R costs x ≡ get_or costs (index_of x (names R)) 0
unfolding cost_at
cost-known R costs x i = rw i

-- the cost of the edit at an index
pub cost-at : (R : Record) → distinct (names R) ≡ true → (costs : List ℕ) (i : ℕ) → i < length (names R) → cost_at R costs (name_at R i) ≡ get_or costs i 0
cost-at R d costs i h = cost-known R costs (name_at R i) (get_or-among (names R) i h) ∙ ap (λ j. get_or costs j 0) (place-get_or (names R) i d h)

cost-unknown : (R : Record) (costs : List ℕ) (x : ℕ) → mem x (names R) ≡ false → cost_at R costs x ≡ unreached
unfolding cost_at
cost-unknown R costs x i = rw i

-- what each step keeps: a cost below the top is that of a row
pub record Witnessed (R : Record) (aim : Aim) (goals costs : List ℕ) : Type 0 where
  pub most : (i : ℕ) → i < length (names R) → get_or costs i 0 ≤ unreached
  pub scoped : (i : ℕ) → i < length (names R) → get_or costs i 0 < unreached → name_at R i among scope_of R aim
  pub row : (i : ℕ) → i < length (names R) → get_or costs i 0 < unreached
      → (row : List ℕ) × (Route (link_of R aim) (TailOf R aim) (name_at R i) row × (length row ≡ get_or costs i 0))
  pub less : (i : ℕ) → get_or costs i 0 ≤ get_or goals i 0

module _ {R : Record} {aim : Aim} {s : Search} {rows : List ℕ} (g : Resolved R rows) (q : Searches R aim s) where
  abbrev Link : ℕ → ℕ → Type 0
  Link = LinkBelow (relation_of aim) (length (names R)) (relation_keys g (relation_of aim)) rows s.marks

  witnessed-step : (costs : List ℕ) (x y : ℕ) → Link x y → suc (get_or costs y 0) < get_or costs x 0 → Witnessed R aim s.goals costs
      → Witnessed R aim s.goals (set costs x (suc (get_or costs y 0)))
  witnessed-step costs x y l h w =
      let v = suc (get_or costs y 0) in
      let k = link-holds g (relation_of aim) s.marks x y l in
      let low : get_or costs y 0 < unreached = omega (arith, w.most x k.left-low) in
      let here : get_or (set costs x v) x 0 ≡ v = get_or-set_same costs x v 0 (get_or-inside costs x (omega arith)) in
      let scoped : name_at R x among scope_of R aim = (marks-on R (λ z. mem z (scope_of R aim)) x (rw q.marks at k.marked)).1 in
      let link : link_of R aim (name_at R x) (name_at R y) ≡ true = aim-links g aim (name_at R x) (name_at R y) k.linked scoped (w.scoped y k.right-low low) in
      let r = w.row y k.right-low low in
      record {
        most = λ i u. is-by i x (λ e. rw (e, here) (omega (arith, w.most x k.left-low))) (λ e. rw (get_or-set_other costs x i v 0 e) (w.most i u));
        scoped = λ i u. is-by i x (λ e f. rw e scoped) (λ e. rw (get_or-set_other costs x i v 0 e) (w.scoped i u));
        row = λ i u. is-by i x
            (λ e. rw (e, here) (λ f. (name_at R x ∷ r.0, (linked_on link r.1.0, ap suc r.1.1))))
            (λ e. rw (get_or-set_other costs x i v 0 e) (w.row i u));
        less = λ i. is-by i x (λ e. rw (e, here) (omega (arith, w.less x))) (λ e. rw (get_or-set_other costs x i v 0 e) (w.less i));
      }

  witnessed : {costs : List ℕ} → Improves Link s.goals costs → Witnessed R aim s.goals costs
  witnessed unchanged = record {
    most = q.most;
    scoped = q.marked;
    row = λ i u f. let t = q.tail i u f in (name_at R i ∷ t.0, (goal_met t.1.0, t.1.1));
    less = λ i. omega arith;
  }
  witnessed (improved {after} p x y l h) = witnessed-step after x y l h (witnessed p)

  -- The settled costs are least.
  settled-least : {costs : List ℕ} → SettledBelow Link unreached s.goals costs → LeastCosts R aim costs
  settled-least {costs} z =
      let w = witnessed z.steps in
      record {
        costing = record {
          witness = λ x h. by (mem x (names R))
              (λ i. let e = cost-known R costs x i in
              let r = rw (get_or-place x (names R) i) at (w.row (index_of x (names R)) (mem_index x (names R) i) (rw e at h)) in
              (r.0, (r.1.0, r.1.1 ∙ sym e)))
              (λ i. absurd (omega (arith, cost-unknown R costs x i)));
          goal = λ x t k. let d = q.least x t k in omega (arith, cost-known R costs x d.0, w.less (index_of x (names R)), d.1);
          step = λ x y e.
              let a = aim-linked g aim x y e in
              let k = link-known g (relation_of aim) x y a.0 in
              let i = index_of x (names R) in
              let j = index_of y (names R) in
              let scoped : mem (name_at R i) (scope_of R aim) ≡ true = rw (get_or-place x (names R) k.0) a.1.0 in
              let o : On s.marks i = rw q.marks (on-marks R (λ z. mem z (scope_of R aim)) i (mem_index x (names R) k.0) scoped) in
              le-by unreached (get_or costs j 0)
              (λ h. omega (arith, h, cost-known R costs x k.0, cost-known R costs y k.1, w.most i (mem_index x (names R) k.0)))
              (λ h. omega (arith, cost-known R costs x k.0, cost-known R costs y k.1, z.still i j (link-there g (relation_of aim) s.marks x y a.0 o) h));
        };
        scoped = w.scoped;
      }

  -- the same of any keys by which the rows are linked, once no cost lies between the level and the top
  pub least-settled : {relation : Relation} {n level : ℕ} {costs : List ℕ} → relation ≡ relation_of aim → n ≡ length (names R)
      → ((keys : List ℕ) → LinkedByKey keys rows → (y : ℕ) → y < length (names R) → get_or costs y 0 < unreached → get_or costs y 0 < level)
      → ((keys : List ℕ) → LinkedByKey keys rows → SettledBelow (LinkBelow relation n keys rows s.marks) level s.goals costs) → LeastCosts R aim costs
  least-settled e h none f =
      let keys = relation_keys g (relation_of aim) in
      let linked = relation-keys-linked g (relation_of aim) in
      settled-least (settled-early (λ x y l u. none keys linked y (link-holds g (relation_of aim) s.marks x y l).right-low u) (rw (e, h) at (f keys linked)))

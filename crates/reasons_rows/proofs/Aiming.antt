-- The three searches that give a reason, by index: what is searched for is what their goals have. Assumes nothing.
use mathlib.Core.Path.{◌≡◌, refl, sym, ap, ◌∙◌}
use mathlib.Core.Logic.{◌≢◌}
use mathlib.Core.Bool.{Bool, true, false, cond, and-true, and-false}
use mathlib.Core.List.{List, []}
use Prim.Native.Nat.{ℕ, ◌≤◌, ◌<◌}
use native.Mathlib.Omega.{arith}
use lib.ListN.{length, get_or, set, replicate}
use lib.Seq.{get_or-set_other}
use Rattle.std.proofs.lemmas.List.{get_or-replicate}
use Rattle.lists.specs.Lists.{mem, index_of, ◌among◌}
use Rattle.record.specs.Record.{Record, names, notafter}
use Rattle.graph.specs.links.Marks.{name_at, marks_of}
use Rattle.graph.specs.links.Links.{Leads}
use Rattle.lists.proofs.Lists.{by, is-by, and_l, and_r, mem_index}
use Rattle.record.proofs.Records.{init-known}
use Rattle.graph.proofs.links.Names.{get_or-among, get_or-place}
use Rattle.graph.proofs.links.Marks.{name-zero}
use Rattle.reasons.specs.Costs.{Route, goal_met, linked_on}
use Rattle.reasons.specs.Given.{notafter_within}
use Rattle.reasons.specs.Aims.{to_init, back_to, to_ring, Closes}
use Rattle.reasons_costs.specs.declared.Relation.TheVariants.{Notafter, Enables, EnabledBy}
use Rattle.reasons_costs.specs.declared.Search.{Search}
use Rattle.reasons_costs.specs.Searches.{unreached, Searches}
use Rattle.reasons_rows.specs.Rings.{RingLength, ShortRings}

-- INIT is the one goal.
pub init-searches : (R : Record) (s : Search) → length (names R) ≤ 128 → s.relation ≡ Enables → s.marks ≡ marks_of R (λ y. mem y (names R))
    → s.goals ≡ set (replicate 128 unreached) 0 1 → Searches R to_init s
unfolding names index_of
init-searches R s few p q e =
    let first : get_or s.goals 0 0 ≡ 1 = rw e refl in
    let other = λ (i : ℕ) (h : i < length (names R)) (n : i ≢ 0).
    ap (λ (l : List ℕ). get_or l i 0) e
    ∙ (get_or-set_other (replicate 128 unreached) 0 i 1 0 n ∙ get_or-replicate 128 i unreached 0 (omega (arith, h, few))) in
    record {
      relation = p;
      marks = q;
      most = λ i h. is-by i 0 (λ z. rw z (omega (arith, first))) (λ n. omega (arith, other i h n));
      marked = λ i h k. get_or-among (names R) i h;
      tail = λ i h k. is-by i 0 (λ z. rw z ([], ((name-zero R, refl), sym first))) (λ n. absurd (omega (arith, other i h n)));
      least = λ x t k. (rw k.0 (init-known R), rw k.0 (omega (arith, first)));
    }

-- notafter inside a set, as a cost: of an edit outside it there is none
module _ (R : Record) (t : List ℕ) (x y : ℕ) where
  pub outside-left : mem x t ≡ false → unreached ≡ cond (notafter_within R t x y) 1 unreached
  unfolding notafter_within
  outside-left e = rw (e, and-false (notafter R x y))

  pub outside-right : mem y t ≡ false → unreached ≡ cond (notafter_within R t x y) 1 unreached
  unfolding notafter_within
  outside-right e = rw (e, and-false (mem x t), and-false (notafter R x y))

  pub linked-inside : x among t → y among t → {b : Bool} → b ≡ notafter R x y → cond b 1 unreached ≡ cond (notafter_within R t x y) 1 unreached
  unfolding notafter_within
  linked-inside i j e = rw (← e, i, j, and-true)

-- The goals of a ring are the members that are notafter r.
module _ (R : Record) (t : List ℕ) {rows : List ℕ} (g : Leads (notafter R) R 0 rows) where
  -- a link inside the set
  pub inside-parts : (x y : ℕ) → notafter_within R t x y ≡ true → (x among names R) × ((y among names R) × (x among t))
  unfolding notafter_within
  inside-parts x y e =
      let o = g.row_of x y (and_l _ _ e) in
      (o.left-known, (o.right-known, and_l (mem x t) (mem y t) (and_r (notafter R x y) _ e)))

  pub ring-searches : (r : ℕ) (s : Search) → s.relation ≡ Notafter → s.marks ≡ marks_of R (λ y. mem y t)
      → ((i : ℕ) → i < length (names R) → get_or s.goals i 0 ≡ cond (notafter_within R t (name_at R i) r) 1 unreached) → Searches R (back_to t r) s
  ring-searches r s p q f =
      let closes = λ (i : ℕ) (h : i < length (names R)) (k : get_or s.goals i 0 < unreached).
      by (notafter_within R t (name_at R i) r) (λ e. e) (λ e. absurd (omega (arith, rw e at (f i h)))) in
      record {
        relation = p;
        marks = q;
        most = λ i h. by (notafter_within R t (name_at R i) r) (λ e. omega (arith, rw e at (f i h))) (λ e. omega (arith, rw e at (f i h)));
        marked = λ i h k. (inside-parts (name_at R i) r (closes i h k)).1.1;
        tail = λ i h k. let e = closes i h k in ([], ((e, refl), sym (rw e at (f i h))));
        least = λ x u k.
            let i = (inside-parts x r k.0).0 in
            (i, let z = rw (get_or-place x (names R) i, k.0) at (f (index_of x (names R)) (mem_index x (names R) i)) in omega arith);
      }

  pub ring-known : (m : ℕ) {x : ℕ} {row : List ℕ} → Route (notafter_within R t) (Closes R t m) x row → x among names R
  ring-known m (goal_met {x} k) = (inside-parts x m k.0).0
  ring-known m (linked_on {x} {y} l r) = (inside-parts x y l).0

  -- The goals of a chain of enablers are the members that have a ring.
  pub chain-searches : (s : Search) → s.relation ≡ EnabledBy → s.marks ≡ marks_of R (λ y. mem y (names R))
      → ((i : ℕ) → i < length (names R) → RingLength R t (name_at R i) (get_or s.goals i 0)) → Searches R (to_ring t) s × ShortRings R t s.goals
  chain-searches s p q f = (
    record {
      relation = p;
      marks = q;
      most = λ i h. (f i h).most;
      marked = λ i h k. get_or-among (names R) i h;
      tail = λ i h k. (f i h).given k;
      least = λ x u k.
          let i = ring-known x k in
          (i, (rw (get_or-place x (names R) i) at (f (index_of x (names R)) (mem_index x (names R) i))).least u k);
    },
    λ i ring h. (f i h).short ring,
  )

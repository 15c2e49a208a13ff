-- The order of a pair by its ranks. Assumes nothing.
use mathlib.Core.Path.{◌≡◌, ◌∙◌, ap}
use mathlib.Core.Bool.{or-true}
use mathlib.Core.List.{List, [], ◌∷◌}
use Rattle.std.specs.Prelude.{Result, flat_map}
use Rattle.refusals.specs.declared.Refusal.{Refusal}
use Prim.Native.Nat.{ℕ, ◌+◌, ◌≤◌, ◌<◌}
use borrow.Author.Tests.{eq-eqb, ne_eqb, lt-ltb, le-ltb}
use lib.Dec.{eqb}
use lib.ListN.{length, take, get_or}
use Rattle.record.specs.declared.Constraint.{Constraint}
use Rattle.lists.specs.Keyed.{united}
use Rattle.record_tables.specs.Table.{constraint_key}
use Rattle.voting.specs.Proposal.{before}
use Rattle.record_joining.specs.declared.insertion.Constraints.{Constraints}
use Rattle.record_joining.specs.insertion.Insertion.{table_of}
use Rattle.voting_drafts.specs.ranking.Ranking.{rank_order, pair_order}
use Rattle.voting_drafts.proofs.ranking.Joins.{joins-next}

-- case by case
module _ (a b left right : ℕ) where
  pub left-unranked : a ≡ 0 → rank_order a b left right ≡ []
  unfolding rank_order
  left-unranked h = rw (eq-eqb a 0 h)

  pub right-unranked : b ≡ 0 → rank_order a b left right ≡ []
  unfolding rank_order
  right-unranked h = rw (eq-eqb b 0 h, or-true (eqb a 0))

  module _ (n : a ≡ 0 → ⊥) (m : b ≡ 0 → ⊥) where
    pub left-lower : a < b → rank_order a b left right ≡ before left right ∷ []
    unfolding rank_order
    left-lower h = rw (ne_eqb a 0 n, ne_eqb b 0 m, lt-ltb a b h)

    pub right-lower : b < a → b ≤ a → rank_order a b left right ≡ before right left ∷ []
    unfolding rank_order
    right-lower h k = rw (ne_eqb a 0 n, ne_eqb b 0 m, le-ltb a b k, lt-ltb b a h)

    pub equal-ranks : b ≤ a → a ≤ b → rank_order a b left right ≡ []
    unfolding rank_order
    equal-ranks h k = rw (ne_eqb a 0 n, ne_eqb b 0 m, le-ltb a b h, le-ltb b a k)

-- one pair more
pub ranked-next : (rank : ℕ → ℕ) (t rows : List Constraint) (i : ℕ) (d : Constraint) → i < length rows → {a b : ℕ}
    → a ≡ rank (get_or rows i d).left → b ≡ rank (get_or rows i d).right → {table : Result Constraints Refusal}
    → table ≡ table_of (united constraint_key (united constraint_key t (flat_map (pair_order rank) (take i rows))) (rank_order a b (get_or rows i d).left (get_or rows i d).right))
    → table ≡ table_of (united constraint_key t (flat_map (pair_order rank) (take (i + 1) rows)))
ranked-next rank t rows i d h {a} {b} p q e =
    let c = get_or rows i d in
    let w : rank_order a b c.left c.right ≡ pair_order rank c = ap (λ (x : ℕ). rank_order x b c.left c.right) p ∙ ap (λ (x : ℕ). rank_order (rank c.left) x c.left c.right) q in
    joins-next (pair_order rank) t rows i d h (e ∙ ap (λ (l : List Constraint). table_of (united constraint_key (united constraint_key t (flat_map (pair_order rank) (take i rows))) l)) w)

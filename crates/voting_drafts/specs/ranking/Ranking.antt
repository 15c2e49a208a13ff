-- Inner: pairs that are ordered by the ranks of their edits; which orders a proposal has, says the crate `voting`. Assumes nothing.
use Rattle.std.specs.Prelude.{cond, ◌||◌, List, [], ◌∷◌, ℕ, eqb, ltb, get_or}
use Rattle.record.specs.declared.Constraint.{Constraint}
use Rattle.voting.specs.Proposal.{before}

-- the rank of a name: from the index of each name, and the rank at each index
abbrev pub rank_of : List ℕ → List ℕ → ℕ → ℕ
rank_of index ranks x = get_or ranks (get_or index x 0) 0

-- the edit of the lower rank is first; two equal ranks give no order, nor does the rank 0
unfoldable pub rank_order : ℕ → ℕ → ℕ → ℕ → List Constraint
rank_order a b left right = cond (eqb a 0 || eqb b 0) [] (cond (ltb a b) (before left right ∷ []) (cond (ltb b a) (before right left ∷ []) []))

abbrev pub pair_order : (ℕ → ℕ) → Constraint → List Constraint
pair_order rank c = rank_order (rank c.left) (rank c.right) c.left c.right

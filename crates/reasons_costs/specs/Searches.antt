-- Inner: least costs by index, and the lowest of the shortest rows: what a search is lent and gives. Assumes nothing.
use Rattle.std.specs.Prelude.{◌≡◌, List, map, ◌++◌, ℕ, suc, ◌≤◌, ◌<◌, cond, length, get_or, take}
use Rattle.lists.specs.Lists.{mem, index_of, ◌among◌}
use Rattle.record.specs.Record.{Record, names}
use Rattle.graph.specs.links.Marks.{name_at, marks_of}
use Rattle.reasons.specs.Reasons.{WalkAlong}
use Rattle.reasons.specs.Costs.{Best, Costing, LowestSteps}
use Rattle.reasons.specs.Aims.{Aim, to_init, back_to, to_ring, link_of, scope_of, TailOf}
use Rattle.reasons_costs.specs.declared.Relation.{Relation}
use Rattle.reasons_costs.specs.declared.Relation.TheVariants.{Notafter, Enables, EnabledBy}
use Rattle.reasons_costs.specs.declared.Search.{Search}
use Rattle.reasons_costs.specs.declared.row.LeastRow.{LeastRow}

-- more names than a least row of a record within the limits has
abbrev pub unreached : ℕ
unreached = 1000

-- the links that a search goes along
abbrev pub relation_of : Aim → Relation
relation_of to_init = Enables
relation_of (back_to t r) = Notafter
relation_of (to_ring t) = EnabledBy

-- A search for rows of this aim, along links between marked edits: at a goal the cost is that of a shortest row that ends there, elsewhere there is none.
pub record Searches (R : Record) (aim : Aim) (s : Search) : Type 0 where
  pub relation : s.relation ≡ relation_of aim
  pub marks : s.marks ≡ marks_of R (λ y. mem y (scope_of R aim))
  pub most : (i : ℕ) → i < length (names R) → get_or s.goals i 0 ≤ unreached
  pub marked : (i : ℕ) → i < length (names R) → get_or s.goals i 0 < unreached → name_at R i among scope_of R aim
  pub tail : (i : ℕ) → i < length (names R) → get_or s.goals i 0 < unreached
      → (t : List ℕ) × (TailOf R aim (name_at R i) t × (suc (length t) ≡ get_or s.goals i 0))
  pub least : (x : ℕ) (t : List ℕ) → TailOf R aim x t → (x among names R) × (get_or s.goals (index_of x (names R)) 0 ≤ suc (length t))

-- the cost of a name; no row goes from one that the record does not have
unfoldable pub cost_at : Record → List ℕ → ℕ → ℕ
cost_at R costs x = cond (mem x (names R)) (get_or costs (index_of x (names R)) 0) unreached

-- Costs that are least, each that is reached of a marked edit.
pub record LeastCosts (R : Record) (aim : Aim) (costs : List ℕ) : Type 0 where
  pub costing : Costing (link_of R aim) (TailOf R aim) unreached (cost_at R costs)
  pub scoped : (i : ℕ) → i < length (names R) → get_or costs i 0 < unreached → name_at R i among scope_of R aim

-- the names of a row of indexes
abbrev pub named : Record → LeastRow → List ℕ
named R row = map (name_at R) (take row.count row.indexes)

-- The row from x to the goal at its last index: with the goal's best tail these are the lowest steps.
pub record Descended (R : Record) (aim : Aim) (goals costs : List ℕ) (x : ℕ) (row : LeastRow) : Type 0 where
  pub last-low : row.last < length (names R)
  pub finite : get_or costs row.last 0 < unreached
  pub goal-cost : get_or goals row.last 0 ≡ get_or costs row.last 0
  pub few : row.count ≤ length (names R)
  pub walk : WalkAlong (link_of R aim) (name_at R x) (name_at R row.last) (named R row)
  pub steps : (t : List ℕ) → Best (TailOf R aim (name_at R row.last)) t → suc (length t) ≡ get_or costs row.last 0
      → LowestSteps (link_of R aim) (TailOf R aim) (cost_at R costs) (name_at R x) (named R row ++ t)
  pub at-goal : (t : List ℕ) → Best (TailOf R aim (name_at R row.last)) t → suc (length t) ≡ get_or costs row.last 0

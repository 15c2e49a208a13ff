-- Inner: the goals of the search for rings, how long the least rings of a set are, and where a chain starts. Assumes nothing.
use Rattle.std.specs.Prelude.{◌≡◌, ◌⊎◌, cond, List, ℕ, suc, ◌≤◌, ◌<◌, ◌+◌, length, get_or}
use Rattle.lists.specs.Lists.{mem}
use Rattle.record.specs.Record.{Record, names}
use Rattle.graph.specs.links.Marks.{mark_limit, name_at, marks_of}
use Rattle.graph.specs.links.Resolved.{Resolved}
use Rattle.reasons.specs.Given.{notafter_within}
use Rattle.reasons.specs.Aims.{RingFrom}
use Rattle.reasons_costs.specs.Searches.{unreached}

-- c is the cost of the edit at i as a goal of the search for a ring of marked edits from the edit at r: it closes one where it is notafter that
abbrev pub RingGoal : List ℕ → List ℕ → ℕ → ℕ → ℕ → Type 0
RingGoal rows marks r i c = (R : Record) (t : List ℕ) → Resolved R rows → i < length (names R) → r < length (names R)
    → marks ≡ marks_of R (λ y. mem y t) → c ≡ cond (notafter_within R t (name_at R i) (name_at R r)) 1 unreached

-- c is one more than the names of a least ring of the set t from r; without a ring it is that of no row
pub record RingLength (R : Record) (t : List ℕ) (r c : ℕ) : Type 0 where
  pub most : c ≤ unreached
  pub given : c < unreached → (ring : List ℕ) × (RingFrom R t r ring × (suc (length ring) ≡ c))
  pub least : (ring : List ℕ) → RingFrom R t r ring → c ≤ suc (length ring)
  pub short : (ring : List ℕ) → RingFrom R t r ring → c ≤ mark_limit + 2

-- the same of marked edits, from the edit at r
abbrev pub RingLengthAt : List ℕ → ℕ → List ℕ → ℕ → ℕ → Type 0
RingLengthAt rows count marks r c = (R : Record) (t : List ℕ) → Resolved R rows → count ≡ length (names R) → r < length (names R)
    → marks ≡ marks_of R (λ y. mem y t) → RingLength R t (name_at R r) c

-- the goals of members with a ring are low: a least ring has no name twice
abbrev pub ShortRings : Record → List ℕ → List ℕ → Type 0
ShortRings R t goals = (i : ℕ) (ring : List ℕ) → i < length (names R) → RingFrom R t (name_at R i) ring → get_or goals i 0 ≤ mark_limit + 2

-- the start with the lower cost, and INIT where both cost the same
abbrev pub StartAt : List ℕ → ℕ → ℕ → Type 0
StartAt costs x s = ((s ≡ 0) × (get_or costs 0 0 ≤ get_or costs x 0)) ⊎ ((s ≡ x) × (get_or costs x 0 < get_or costs 0 0))

-- Inner: costs by index, made less level by level: what the links to one level do to them; and the step that a row takes. Assumes nothing.
use Rattle.std.specs.Prelude.{◌≡◌, Bool, true, false, cond, ◌&&◌, ◌⊎◌, List, ℕ, suc, ◌+◌, ◌≤◌, ◌<◌, min, eqb, get_or, set, Option, MatchOption}
use Rattle.record.specs.Record.{Record, notafter, enables}
use Rattle.graph.specs.links.Marks.{mark_limit, name_at}
use Rattle.graph.specs.links.Links.{notafter_base, enables_base, RowWith}
use Rattle.graph.specs.links.Reach.{On}
use Rattle.reasons.specs.Reasons.{enabled_by}
use Rattle.reasons_costs.specs.Searches.{unreached}
use Rattle.reasons_costs.specs.declared.Span.{Span}
use Rattle.reasons_costs.specs.declared.Relation.{Relation}
use Rattle.reasons_costs.specs.declared.Relation.TheVariants.{Notafter, Enables, EnabledBy}

abbrev pub base_of : Relation → ℕ
base_of Notafter = notafter_base
base_of Enables = enables_base
base_of EnabledBy = enables_base

abbrev pub linked_by : Record → Relation → ℕ → ℕ → Bool
linked_by R Notafter = notafter R
linked_by R Enables = enables R
linked_by R EnabledBy = enabled_by R

-- A row of the right edit b, as a link from a marked edit: from its left edit to b, and from b to its left edit.
pub record LinkTo (base : ℕ) (keys rows marks : List ℕ) (b x y : ℕ) : Type 0 where
  pub row : RowWith rows keys (base + b) (λ left. left ≡ x)
  pub to : y ≡ b
  pub marked : On marks x

pub record LinkFrom (base : ℕ) (keys rows marks : List ℕ) (b x y : ℕ) : Type 0 where
  pub row : RowWith rows keys (base + b) (λ left. left ≡ y)
  pub from : x ≡ b
  pub marked : On marks x

-- the links of a relation that are rows of the right edit b
abbrev pub LinkAt : Relation → List ℕ → List ℕ → List ℕ → ℕ → ℕ → ℕ → Type 0
LinkAt Notafter = LinkTo notafter_base
LinkAt Enables = LinkTo enables_base
LinkAt EnabledBy = LinkFrom enables_base

-- those of all right edits below n
pub record LinkBelow (relation : Relation) (n : ℕ) (keys rows marks : List ℕ) (x y : ℕ) : Type 0 where
  pub right : ℕ
  pub low : right < n
  pub link : LinkAt relation keys rows marks right x y

-- the cost of x is at most c, where it is marked
unfoldable pub limited : List ℕ → List ℕ → ℕ → ℕ → List ℕ
limited marks costs c x = cond (eqb (get_or marks x 0) 1) (set costs x (min (get_or costs x 0) c)) costs

-- costs after any number of steps, each along one link to a lower cost
pub data Improves (Link : ℕ → ℕ → Type 0) (costs : List ℕ) : List ℕ → Type 0 where
  unchanged : Improves Link costs costs
  improved : {after : List ℕ} → Improves Link costs after → (x y : ℕ) → Link x y → suc (get_or after y 0) < get_or after x 0
      → Improves Link costs (set after x (suc (get_or after y 0)))

-- a cost is as before, or is one more than the level, where that is less
abbrev pub KeptOrNext : ℕ → ℕ → ℕ → Type 0
KeptOrNext level before after = (after ≡ before) ⊎ ((suc level < before) × (after ≡ suc level))

-- The links to a level are done: what they lead from costs at most one more than it.
pub record Relaxed (Link : ℕ → ℕ → Type 0) (level : ℕ) (costs after : List ℕ) : Type 0 where
  pub steps : Improves Link costs after
  pub each : (x : ℕ) → KeptOrNext level (get_or costs x 0) (get_or after x 0)
  pub done : (x y : ℕ) → Link x y → get_or costs y 0 ≡ level → get_or after x 0 ≤ suc level

abbrev pub Within : Span → ℕ → Type 0
Within span x = (span.low ≤ x) × (x < span.high)

-- the edits that cost so much or more and are reached lie in the span
abbrev pub Covers : ℕ → List ℕ → Span → Type 0
Covers level costs span = (x : ℕ) → x < mark_limit → level ≤ get_or costs x 0 → get_or costs x 0 < unreached → Within span x

-- whatever level the one span covers before, the other covers after
abbrev pub Covering : List ℕ → Span → List ℕ → Span → Type 0
Covering costs span after next = (level : ℕ) → Covers level costs span → Covers level after next

-- a link from the edit at x to that at y, which costs one less
unfoldable pub is_down : Record → Relation → List ℕ → ℕ → ℕ → Bool
is_down R relation costs x y = eqb (get_or costs y 0 + 1) (get_or costs x 0) && linked_by R relation (name_at R x) (name_at R y)

-- the lowest number below n of which the test holds
abbrev pub LowestOf : (ℕ → Bool) → ℕ → Option ℕ → Type 0
LowestOf test n r = MatchOption r ((y : ℕ) → y < n → test y ≡ false) (λ y. (test y ≡ true) × ((z : ℕ) → z < y → test z ≡ false))

-- where the lowest row goes on from x; nowhere where it ends there, at a goal that costs as little and is lower
abbrev pub NextOf : (ℕ → Bool) → ℕ → ℕ → ℕ → ℕ → Option ℕ → Type 0
NextOf test n goal cost x r = MatchOption r ((y : ℕ) → y < n → test y ≡ true → (goal ≡ cost) × (x < y))
    (λ y. (test y ≡ true) × (((z : ℕ) → z < y → test z ≡ false) × (goal ≡ cost → y ≤ x)))

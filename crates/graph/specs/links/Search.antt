-- Inner: what one call of the search for a ring does. States: 0 not in the set, 1 waiting, 2 on the way, 3 placed. Keys are right indexes. Assumes nothing.
use Rattle.std.specs.Prelude.{◌≡◌, Bool, true, false, List, ℕ, ◌≤◌, ◌<◌, length, get_or}
use Rattle.graph.specs.links.Links.{left_at, LinkedByKey}
use Rattle.graph.specs.links.Reach.{On, Off}

abbrev pub Is : List ℕ → ℕ → ℕ → Type 0
Is s v y = get_or s y 0 ≡ v

-- y is of the set
abbrev pub Present : List ℕ → ℕ → Type 0
Present s y = Is s 0 y → ⊥

-- the rank rises along each row between two of the set
abbrev pub Rising : List ℕ → List ℕ → List ℕ → (ℕ → ℕ) → Type 0
Rising keys rows s rank =
    (i y : ℕ) → i < length keys → get_or keys i 0 ≡ y → Present s y → Present s (left_at rows i) → rank (left_at rows i) < rank y

-- p holds each of the set whose predecessors in the set it holds
abbrev pub Follows : List ℕ → List ℕ → List ℕ → (ℕ → Bool) → Type 0
Follows keys rows s p =
    (y : ℕ) → Present s y → ((i : ℕ) → i < length keys → get_or keys i 0 ≡ y → Present s (left_at rows i) → p (left_at rows i) ≡ true) → p y ≡ true

-- x comes before all that are on the way
abbrev pub Above : List ℕ → List ℕ → List ℕ → ℕ → Type 0
Above keys rows s x = Present s x → (rank : ℕ → ℕ) → Rising keys rows s rank → (y : ℕ) → Is s 2 y → rank x < rank y

abbrev pub NoRank : List ℕ → List ℕ → List ℕ → Type 0
NoRank keys rows s = (rank : ℕ → ℕ) → Rising keys rows s rank → ⊥

-- the states move only from waiting to on the way to placed
pub record Same (s s' : List ℕ) : Type 0 where
  pub size : length s' ≡ length s
  pub gone : (y : ℕ) → Is s' 0 y → Is s 0 y
  pub none : (y : ℕ) → Is s 0 y → Is s' 0 y
  pub wait : (y : ℕ) → Is s' 1 y → Is s 1 y
  pub kept : (y : ℕ) → Is s 3 y → Is s' 3 y
  pub four : ((y : ℕ) → get_or s y 0 ≤ 3) → (y : ℕ) → get_or s' y 0 ≤ 3

-- x is placed, after all that come before it
pub record PlacedAfter (keys rows s : List ℕ) (x : ℕ) (s' : List ℕ) : Type 0 where
  pub path : (y : ℕ) → Is s' 2 y → Is s 2 y
  pub here : Present s x → Is s' 3 x
  pub placed : (p : ℕ → Bool) → Follows keys rows s p → ((y : ℕ) → Is s 3 y → p y ≡ true) → (y : ℕ) → Is s' 3 y → p y ≡ true

-- the answer of a call at x: true where a ring is met, so that no rank rises
pub record Told (keys rows s : List ℕ) (x : ℕ) (r : Bool) (s' : List ℕ) : Type 0 where
  pub ring : r ≡ true → NoRank keys rows s
  pub done : r ≡ false → PlacedAfter keys rows s x s'

pub record Visited (rows s : List ℕ) (x : ℕ) (r : Bool) (s' : List ℕ) : Type 0 where
  pub same : Same s s'
  pub told : (keys : List ℕ) → LinkedByKey keys rows → ((y : ℕ) → get_or s y 0 ≤ 3) → Above keys rows s x → Told keys rows s x r s'

-- a call at x that does nothing where x is old
pub record VisitedNew (rows old s : List ℕ) (x : ℕ) (r : Bool) (s' : List ℕ) : Type 0 where
  pub new : Off old x → Visited rows s x r s'
  pub was : On old x → (r ≡ false) × (s' ≡ s)

-- Inner: what one call that marks an index, and all that leads to it, does to the marks. Assumes nothing.
use Rattle.std.specs.Prelude.{◌≡◌, Bool, true, List, ℕ, ◌+◌, ◌≤◌, ◌<◌, length, get_or}
use Rattle.graph.specs.links.Marks.{mark_limit}
use Rattle.graph.specs.links.Links.{left_at, LinkedByKey}

abbrev pub On : List ℕ → ℕ → Type 0
On m y = get_or m y 0 ≡ 1

abbrev pub Off : List ℕ → ℕ → Type 0
Off m y = On m y → ⊥

-- the set p holds the left of each row whose right it holds
abbrev pub ClosedOver : ℕ → List ℕ → List ℕ → (ℕ → Bool) → Type 0
ClosedOver base keys rows p = (i y : ℕ) → i < length keys → y < mark_limit → get_or keys i 0 ≡ base + y → p y ≡ true → p (left_at rows i) ≡ true

-- The marks m before the call at x, and m' after it: m' adds x, is closed over what is new, and holds no more than any such set must.
pub record Marked (base : ℕ) (rows m : List ℕ) (x : ℕ) (m' : List ℕ) : Type 0 where
  pub size : length m' ≡ length m
  pub bits : ((y : ℕ) → get_or m y 0 ≤ 1) → (y : ℕ) → get_or m' y 0 ≤ 1
  pub kept : (y : ℕ) → On m y → On m' y
  pub here : On m' x
  pub closed : (keys : List ℕ) → LinkedByKey keys rows
      → (i y : ℕ) → i < length keys → get_or keys i 0 ≡ base + y → On m' y → Off m y → On m' (left_at rows i)
  pub least : (keys : List ℕ) → LinkedByKey keys rows
      → (p : ℕ → Bool) → ClosedOver base keys rows p → p x ≡ true → ((y : ℕ) → On m y → p y ≡ true) → (y : ℕ) → On m' y → p y ≡ true

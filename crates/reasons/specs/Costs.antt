-- Inner: least rows over any links, by costs: what a code that finds least costs and then takes the lowest step has to have. Assumes nothing.
use Rattle.std.specs.Prelude.{◌≡◌, Bool, true, false, List, ◌∷◌, ℕ, suc, ◌≤◌, ◌<◌, length}
use Rattle.reasons.specs.Reasons.{lower}

-- what may follow a name where a row ends
abbrev pub Ending : Type 1
Ending = ℕ → List ℕ → Type 0

-- A row of names from x: links up to a goal, and after the goal one of its tails.
pub data Route (link : ℕ → ℕ → Bool) (Tail : Ending) : ℕ → List ℕ → Type 0 where
  goal_met : {x : ℕ} {tail : List ℕ} → Tail x tail → Route link Tail x (x ∷ tail)
  linked_on : {x y : ℕ} {row : List ℕ} → link x y ≡ true → Route link Tail y row → Route link Tail x (x ∷ row)

-- the shortest of the rows that have P, and of these the lowest
pub record Best (P : List ℕ → Type 0) (row : List ℕ) : Type 0 where
  pub given : P row
  pub fewest : (other : List ℕ) → P other → length row ≤ length other
  pub lowest : (other : List ℕ) → P other → length other ≡ length row → lower other row ≡ false

-- Costs: the names of a row from x on. Below `top` each is that of some row, and no goal and no link makes one less.
pub record Costing (link : ℕ → ℕ → Bool) (Tail : Ending) (top : ℕ) (cost : ℕ → ℕ) : Type 0 where
  pub witness : (x : ℕ) → cost x < top → (row : List ℕ) × (Route link Tail x row × (length row ≡ cost x))
  pub goal : (x : ℕ) (tail : List ℕ) → Tail x tail → cost x ≤ suc (length tail)
  pub step : (x y : ℕ) → link x y ≡ true → cost x ≤ suc (cost y)

-- y comes next before each tail of x that costs c with it
abbrev pub Ahead : Ending → ℕ → ℕ → ℕ → Type 0
Ahead Tail c x y = (tail : List ℕ) → Tail x tail → suc (length tail) ≡ c → (h : ℕ) × ((rest : List ℕ) × ((tail ≡ h ∷ rest) × (y < h)))

-- The lowest step at each name: to the end where no step that costs as little comes before it, else to the lowest such step.
pub data LowestSteps (link : ℕ → ℕ → Bool) (Tail : Ending) (cost : ℕ → ℕ) : ℕ → List ℕ → Type 0 where
  last_step : {x : ℕ} {tail : List ℕ} → Best (Tail x) tail → suc (length tail) ≡ cost x
      → ((y : ℕ) → link x y ≡ true → suc (cost y) ≡ cost x → (h : ℕ) × ((rest : List ℕ) × ((tail ≡ h ∷ rest) × (h < y))))
      → LowestSteps link Tail cost x (x ∷ tail)
  next_step : {x y : ℕ} {row : List ℕ} → link x y ≡ true → suc (cost y) ≡ cost x → ((z : ℕ) → link x z ≡ true → suc (cost z) ≡ cost x → y ≤ z)
      → Ahead Tail (cost x) x y → LowestSteps link Tail cost y row → LowestSteps link Tail cost x (x ∷ row)

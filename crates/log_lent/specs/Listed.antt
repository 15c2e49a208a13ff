-- How a list is kept in the first places of an array. Assumes nothing.
use Rattle.std.specs.Prelude.{◌≡◌, List, ℕ, ◌≤◌, length, take}

pub record Listed {A : Type 0} (places : ℕ) (l array : List A) (count : ℕ) : Type 0 where
  pub rows : take count array ≡ l
  pub size : length array ≡ places
  pub few : count ≤ places

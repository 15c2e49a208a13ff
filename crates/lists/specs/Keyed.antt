-- Document 01, "The record": tables ascending without repeats, and their union. Elements of any type, by a key that is a list of numbers. Assumes nothing.
use Rattle.std.specs.Prelude.{◌≡◌, Bool, true, false, cond, List, [], ◌∷◌, ℕ, ltb}

-- the lexicographic order: the first number that differs decides
unfoldable pub precedes : List ℕ → List ℕ → Bool
precedes [] b = false
precedes (x ∷ a) [] = false
precedes (x ∷ a) (y ∷ b) = cond (ltb x y) true (cond (ltb y x) false (precedes a b))

module _ {A : Type 0} (key : A → List ℕ) where
  -- x is below every element of the table
  abbrev pub Below : A → List A → Type 0
  Below x [] = Unit
  Below x (y ∷ t) = (precedes (key x) (key y) ≡ true) × Below x t

  -- ascending, without repeats
  abbrev pub Ascending : List A → Type 0
  Ascending [] = Unit
  Ascending (x ∷ t) = Below x t × Ascending t

  -- the table with x in its place; a key that is known stays as it is
  unfoldable pub inserted : A → List A → List A
  inserted x [] = x ∷ []
  inserted x (y ∷ t) = cond (precedes (key x) (key y)) (x ∷ y ∷ t) (cond (precedes (key y) (key x)) (y ∷ inserted x t) (y ∷ t))

  -- the table joined by the elements of another, one after the other
  unfoldable pub united : List A → List A → List A
  united t [] = t
  united t (x ∷ s) = united (inserted x t) s

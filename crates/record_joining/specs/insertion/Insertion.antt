-- Inner: document 01, "What is turned away", number 3: a record's table of constraints that rows join one by one, until one has no place left. Assumes nothing.
use Rattle.std.specs.Prelude.{true, false, cond, List, ◌∷◌, ◌++◌, ◌≡◌, Result, Ok, Err, ℕ, ◌+◌, ◌-◌, ◌≤◌, ltb, length, take, drop}
use Rattle.refusals.specs.declared.Refusal.{Refusal}
use Rattle.refusals.specs.declared.Refusal.TheVariants.{NoPlace}
use Rattle.record.specs.declared.Constraint.{Constraint}
use Rattle.record.specs.Stored.{padded, filler_constraint, constraint_limit}
use Rattle.lists.specs.Keyed.{precedes}
use Rattle.lists.specs.Lists.{Has}
use Rattle.record_joining.specs.declared.insertion.Constraints.{Constraints}

-- the table of a list; one of more than 512 rows has no place for them
unfoldable pub table_of : List Constraint → Result Constraints Refusal
table_of l = cond (ltb constraint_limit (length l)) (Err NoPlace) (Ok (record { rows = padded constraint_limit filler_constraint l; count = length l }))

-- p elements of the table, and no more, precede x
pub record Place {A : Type 0} (key : A → List ℕ) (x : A) (l : List A) (p : ℕ) : Type 0 where
  pub near : p ≤ length l
  pub below : (r : A) → Has r (take p l) → precedes (key r) (key x) ≡ true
  pub above : (r : A) → Has r (drop p l) → precedes (key r) (key x) ≡ false

-- x at place p of the first n elements, those after it moved up by one
unfoldable pub put_at : {A : Type 0} → ℕ → ℕ → A → List A → List A
put_at n p x t = take p t ++ (x ∷ (take (n - p) (drop p t) ++ drop (n + 1) t))

-- Inner: what every element of a table keeps, proved of edits and of constraints. Assumes nothing.
use Prim.Native.Nat.{zero-le, suc-le-suc}
use Rattle.std.specs.Prelude.{◌≡◌, refl, [], ◌∷◌, ◌≤◌, length, take}
use Rattle.record.specs.declared.Body.{Body}
use Rattle.record.specs.declared.Body.TheVariants.{Insert, Set, Remove}
use Rattle.record.specs.declared.Edit.{Edit}
use Rattle.record.specs.declared.Constraint.{Constraint}
use Rattle.record_rows.specs.row.Row.{edit_row, constraint_row, edit_width, constraint_width, body_cells}

pub edit-narrow : 1 ≤ edit_width
edit-narrow = suc-le-suc zero-le

pub constraint-narrow : 3 ≤ constraint_width
constraint-narrow = suc-le-suc (suc-le-suc (suc-le-suc zero-le))

pub edit-wide : (e : Edit) → length (edit_row e) ≡ edit_width
unfolding edit_row
edit-wide e = go e.body
  where
    go : (b : Body) → length (e.name ∷ body_cells b) ≡ edit_width
    go (Insert p) = refl
    go (Set p f v) = refl
    go (Remove p) = refl

pub constraint-wide : (c : Constraint) → length (constraint_row c) ≡ constraint_width
unfolding constraint_row
constraint-wide c = refl

pub edit-keyed : (e : Edit) → take 1 (edit_row e) ≡ e.name ∷ []
unfolding edit_row
edit-keyed e = refl

pub constraint-keyed : (c : Constraint) → take 3 (constraint_row c) ≡ c.left ∷ c.rule ∷ c.right ∷ []
unfolding constraint_row
constraint-keyed c = refl

use mathlib.Core.Path.{◌≡◌}
use mathlib.Core.Bool.{Bool, true}
use mathlib.Core.List.{map}
use Prim.Native.Nat.{ℕ, ◌<◌}
use lib.ListN.{length, take}
use Rattle.std.specs.Fn.{FnReturnsAt}
use Rattle.lists.specs.Lists.{all}
use Rattle.record_tables.specs.Checked.{MarksNames}
use Rattle.record_tables.proofs.marks_of.Given as goal

abbrev pub invariant-loop-x : goal.invariant-loop-x
invariant-loop-x g l =
    (length l.marks ≡ 2304)
    × ((number : g.row.T.Denot → ℕ) (good : g.row.T.Denot → Bool) → ((x : g.row.T.Denot) (r : ℕ) → FnReturnsAt g.F.Fn l.name x r → r ≡ number x) → ((x : g.row.T.Denot) → good x ≡ true → number x < 2304) → all good l.elements ≡ true
    → MarksNames l.marks (map number (take l.x-index l.elements)))

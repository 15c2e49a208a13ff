use Rattle.std.proofs.Common.{◌≡◌, Bool, ◌≤◌, take}
use Rattle.lists.specs.Lists.{Has}
use Rattle.voting.proofs.Selecting.{Selected}
use Rattle.voting.proofs.select.Given as goal

abbrev pub invariant-loop-x : goal.invariant-loop-x
invariant-loop-x g l =
    goal.F-IsAlwaysCallable g l.test × (l.count ≤ l.x-index)
    × ((p : _ → Bool) → ((x : _) (b : Bool) → Has x l.from → goal.F-post g l.test x b → b ≡ p x) → Selected p (take l.x-index l.from) l.fn.into l.count l.into)

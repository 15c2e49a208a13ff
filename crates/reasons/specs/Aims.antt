-- Inner: the three searches that give a reason, by name, since a contract cannot speak of all kinds of goals at once: their links, goals and tails. Assumes nothing.
use Rattle.std.specs.Prelude.{◌≡◌, Bool, true, List, [], ℕ}
use Rattle.record.specs.Record.{Record, names, enables}
use Rattle.reasons.specs.Reasons.{enabled_by}
use Rattle.reasons.specs.Given.{notafter_within}
use Rattle.reasons.specs.Costs.{Ending, Route}

-- must: a chain of enables to 0. A ring of the set t back to r. Never: a chain of enablers to a member of t that has a ring in t.
pub data Aim : Type 0 where
  to_init : Aim
  back_to : List ℕ → ℕ → Aim
  to_ring : List ℕ → Aim

-- the links, and the edits that they lead from and to
abbrev pub link_of : Record → Aim → ℕ → ℕ → Bool
link_of R to_init = enables R
link_of R (back_to t r) = notafter_within R t
link_of R (to_ring t) = enabled_by R

abbrev pub scope_of : Record → Aim → List ℕ
scope_of R to_init = names R
scope_of R (back_to t r) = t
scope_of R (to_ring t) = names R

-- nothing follows 0
abbrev pub Init : Ending
Init x tail = (x ≡ 0) × (tail ≡ [])

-- nothing follows a member that is notafter r
abbrev pub Closes : Record → List ℕ → ℕ → Ending
Closes R t r x tail = (notafter_within R t x r ≡ true) × (tail ≡ [])

-- a member is followed by its rings
abbrev pub RingFrom : Record → List ℕ → Ending
RingFrom R t r = Route (notafter_within R t) (Closes R t r) r

abbrev pub TailOf : Record → Aim → Ending
TailOf R to_init = Init
TailOf R (back_to t r) = Closes R t r
TailOf R (to_ring t) = RingFrom R t

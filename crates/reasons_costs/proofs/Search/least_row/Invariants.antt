use mathlib.Core.Path.{◌≡◌}
use mathlib.Core.Bool.{true}
use Prim.Native.Nat.{◌<◌}
use lib.ListN.{length, get_or}
use Rattle.lists.specs.Lists.{ascending}
use Rattle.record.specs.Record.{Record, names}
use Rattle.graph.specs.links.Resolved.{Resolved}
use Rattle.reasons.specs.Aims.{Aim}
use Rattle.reasons_costs.specs.Searches.{unreached, Searches, LeastCosts}
use Rattle.reasons_costs.proofs.Descent.{Descending}
use Rattle.reasons_costs.proofs.Search.least_row.Given as goal

abbrev pub invariant-loop-count : goal.invariant-loop-count
invariant-loop-count l =
    (length l.indexes ≡ 128) × (l.last < 128)
    × ((R : Record) (aim : Aim) → Resolved R l.graph.rows → l.graph.count ≡ length (names R) → ascending (names R) ≡ true → Searches R aim l.self → LeastCosts R aim l.costs
    → l.x < length (names R) → get_or l.costs l.x 0 < unreached → Descending R aim l.costs l.indexes l.count l.x l.last)

use mathlib.Core.Path.{◌≡◌}
use mathlib.Core.List.{map}
use lib.ListN.{take}
use Rattle.record.specs.Stored.{padded}
use Rattle.record_union.proofs.elements_of.Given as goal

abbrev pub invariant-loop-i : goal.invariant-loop-i
invariant-loop-i g l = l.elements ≡ padded g.row.PLACES g.T.Element.filler (map g.T.Element.element_of (take l.i l.t))

-- `Element::below` of a constraint meets its contract. Assumes nothing.
use Rattle.std.proofs.Common.{arith}
use Rattle.std.proofs.lemmas.Grind.{common_steps}
use Rattle.lists.specs.Keyed.{precedes}
use Rattle.record_rows.proofs.element.ConstraintElementCONSTRAINT_CELLS.below.Goals as goal

pub returns : goal.returns
unfolding precedes
returns c = let h = c.lt.ensures in grind (arith, common_steps)

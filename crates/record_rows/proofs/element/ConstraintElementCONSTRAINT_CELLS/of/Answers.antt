-- `Element::of` of a constraint meets its contract. Assumes nothing.
use mathlib.Core.Path.{◌∙◌}
use native.Mathlib.Omega.{arith}
use Rattle.record_rows.proofs.row.Cells.{constraint-filler, constraint-bounds, constraint-decoded}
use Rattle.record_rows.proofs.element.ConstraintElementCONSTRAINT_CELLS.of.Goals as goal

pub returns-then-not-constraint_in_range : goal.returns-then-not-constraint_in_range
returns-then-not-constraint_in_range c = c.filler.ensures ∙ constraint-filler c.args.row.now c.constraint_in_range.ensures.0 c.if-not-constraint_in_range.true

pub overflow_cast-result : goal.overflow_cast-result
overflow_cast-result c = let b = constraint-bounds c.args.row.now c.constraint_in_range.ensures.0 c.if-not-constraint_in_range.false in omega (arith, b.0)

pub overflow_cast-result-2 : goal.overflow_cast-result-2
overflow_cast-result-2 c = let b = constraint-bounds c.args.row.now c.constraint_in_range.ensures.0 c.if-not-constraint_in_range.false in omega (arith, b.1)

pub overflow_cast-result-3 : goal.overflow_cast-result-3
overflow_cast-result-3 c = let b = constraint-bounds c.args.row.now c.constraint_in_range.ensures.0 c.if-not-constraint_in_range.false in omega (arith, b.2)

pub returns : goal.returns
returns c = constraint-decoded c.args.row.now c.constraint_in_range.ensures.0 c.if-not-constraint_in_range.false

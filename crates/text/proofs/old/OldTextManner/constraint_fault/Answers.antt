-- `OldText::constraint_fault` meets its contract. Assumes nothing.
use Rattle.std.proofs.Common.{[]}
use Rattle.text.specs.Text.{no_ground, old_lines}
use Rattle.text.proofs.OwnPlaces.{placed-by, constraints-ascend, constraint-placed}
use Rattle.text.proofs.old.OldTextManner.constraint_fault.Goals as goal

pub returns-clause-number : goal.returns-clause-number
returns-clause-number c = λ a. c.constraint_fault.ensures (constraints-ascend old_lines [] no_ground c.args.above.edits.now c.args.above.constraints.now a.faultless) a.marked

pub returns-clause-place : goal.returns-clause-place
returns-clause-place c = λ a.
    placed-by c.constraint_fault.result (c.constraint_fault.ensures (constraints-ascend old_lines [] no_ground c.args.above.edits.now c.args.above.constraints.now a.faultless) a.marked)
    (constraint-placed old_lines [] no_ground c.args.above.edits.now c.args.above.constraints.now a.faultless c.args.row)

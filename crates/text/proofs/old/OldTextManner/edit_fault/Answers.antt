-- `OldText::edit_fault` meets its contract. Assumes nothing.
use Rattle.std.proofs.Common.{[]}
use Rattle.text.specs.Text.{no_ground, old_lines}
use Rattle.text.proofs.OwnPlaces.{placed-by, edits-ascend, edit-placed}
use Rattle.text.proofs.old.OldTextManner.edit_fault.Goals as goal

pub returns-clause-number : goal.returns-clause-number
returns-clause-number c = λ a. c.edit_fault.ensures (edits-ascend old_lines [] no_ground c.args.above.edits.now c.args.above.constraints.now a.faultless)

pub returns-clause-place : goal.returns-clause-place
returns-clause-place c = λ a.
    placed-by c.edit_fault.result (c.edit_fault.ensures (edits-ascend old_lines [] no_ground c.args.above.edits.now c.args.above.constraints.now a.faultless))
    (edit-placed old_lines [] no_ground c.args.above.edits.now c.args.above.constraints.now a.faultless c.args.row)

-- `own::constraint_fault` meets its contract. Assumes nothing.
use Rattle.std.proofs.Common.{false, ◌∙◌, sym}
use Rattle.record_tables.specs.Table.{names_of, constraint_kind}
use Rattle.text.specs.Text.{no_ground}
use Rattle.text.proofs.Faults.{kind-same}
use Rattle.text.proofs.OwnOrder.{constraint-same}
use Rattle.text.proofs.own.constraint_fault.Goals as goal

pub returns : goal.returns
returns c = λ a m.
    let names = names_of c.args.above.edits.now in
    c.row_fault.ensures a ∙ kind-same (constraint_kind names false) c.args.above.constraints.now c.args.row (c.constraint_further-further.ensures names m)
    ∙ sym (constraint-same no_ground c.args.above.edits.now c.args.above.constraints.now c.args.row)

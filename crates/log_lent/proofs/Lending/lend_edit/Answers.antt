-- `Lending::lend_edit` meets its contract. Assumes nothing.
use Rattle.log_lent.specs.Lent.{with_edit}
use Rattle.log_lent.proofs.Lending.lend_edit.Goals as goal

pub returns : goal.returns
unfolding with_edit
returns c = λ L K. let p = c.add.ensures _ K.edits in (p.0, record { edits = p.1; constraints = K.constraints; roll = K.roll; row = K.row })

-- `Lending::lend_constraint` meets its contract. Assumes nothing.
use Rattle.log_lent.specs.Lent.{with_constraint}
use Rattle.log_lent.proofs.Lending.lend_constraint.Goals as goal

pub returns : goal.returns
unfolding with_constraint
returns c = λ L K. let p = c.add.ensures _ K.constraints in (p.0, record { edits = K.edits; constraints = p.1; roll = K.roll; row = K.row })

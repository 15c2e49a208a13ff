-- `lent` meets its contract. Assumes nothing.
use Rattle.record_joining.proofs.Answers.{lent_is}
use Rattle.record_joining.proofs.lent.Goals as goal

pub returns : goal.returns
returns c = let s = c.args in lent_is s.lent.edits.now s.lent.constraints.now c.in_ok-lent_fault.ensures c.decode.ensures

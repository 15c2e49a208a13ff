-- `Lending::lend_no_roll` meets its contract. Assumes nothing.
use Rattle.log_lent.proofs.Settings.{no-roll-lent}
use Rattle.log_lent.proofs.Lending.lend_no_roll.Goals as goal

pub returns : goal.returns
returns c = λ L K. no-roll-lent K

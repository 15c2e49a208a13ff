-- `Lending::lend_no_row` meets its contract. Assumes nothing.
use Rattle.log_lent.proofs.Settings.{no-row-lent}
use Rattle.log_lent.proofs.Lending.lend_no_row.Goals as goal

pub returns : goal.returns
returns c = λ L K. no-row-lent K

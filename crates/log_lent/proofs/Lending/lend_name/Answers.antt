-- `Lending::lend_name` meets its contract. Assumes nothing.
use Rattle.log_lent.proofs.Settings.{row-full, name-lent}
use Rattle.log_lent.proofs.Lending.lend_name.Goals as goal

pub returns-then-self-ge-ROW_PLACES : goal.returns-then-self-ge-ROW_PLACES
returns-then-self-ge-ROW_PLACES c = λ L K. row-full K _ c.if-self-ge-ROW_PLACES.true

pub returns : goal.returns
returns c = λ L K. name-lent K _ c.if-self-ge-ROW_PLACES.false

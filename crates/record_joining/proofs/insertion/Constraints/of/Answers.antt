-- `insertion::Constraints::of` meets its contract. Assumes nothing.
use Rattle.record_joining.proofs.insertion.Tables.{of-record}
use Rattle.record_joining.proofs.insertion.Constraints.of.Goals as goal

pub returns : goal.returns
returns c = λ R e h. of-record c.args.multilog R e h

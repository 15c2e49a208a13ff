-- `insertion::Constraints::in_record` meets its contract. Assumes nothing.
use Rattle.record_joining.proofs.insertion.Tables.{with-table-is}
use Rattle.record_joining.proofs.insertion.Constraints.in_record.Goals as goal

pub returns : goal.returns
returns c = λ R l e f. with-table-is c.args.multilog R c.args.self l e f

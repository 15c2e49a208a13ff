-- `lent_record::test_row` meets its contract. Assumes nothing.
use Rattle.graph.proofs.indexes.Fit.{checked-fit}
use Rattle.judgement.proofs.lent_record.test_row.Goals as goal

pub returns : goal.returns
returns c =
    let t = c.in_ok-multilog.ensures.taken in
    (c.in_ok-multilog.ensures.fault, c.is_schedule.ensures _ t.is (checked-fit _ t.checked))

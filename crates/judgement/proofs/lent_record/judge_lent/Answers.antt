-- `lent_record::judge_lent` meets its contract. Assumes nothing.
use Rattle.graph.proofs.indexes.Fit.{checked-fit}
use Rattle.judgement.proofs.lent_record.Lent.{judgement-told}
use Rattle.judgement.proofs.lent_record.judge_lent.Goals as goal

pub returns : goal.returns
returns c =
    let t = c.in_ok-multilog.ensures.taken in
    (c.in_ok-multilog.ensures.fault, judgement-told _ c.in_ok-multilog.multilog t.is _ (c.judge.ensures _ t.is (checked-fit _ t.checked)))

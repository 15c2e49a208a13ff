-- `lent_record::schedule_lent` meets its contract. Assumes nothing.
use Rattle.std.proofs.Common.{ap, ◌∙◌}
use Rattle.graph.proofs.indexes.Fit.{checked-fit}
use Rattle.judgement.specs.Judged.{stored_schedule}
use Rattle.judgement.proofs.lent_record.Lent.{none-marked-edits}
use Rattle.judgement.proofs.lent_record.schedule_lent.Goals as goal

pub returns : goal.returns
returns c =
    let t = c.in_ok-multilog.ensures.taken in
    (c.in_ok-multilog.ensures.fault, c.schedule.ensures _ t.is (checked-fit _ t.checked) ∙ ap (stored_schedule _) (none-marked-edits _))

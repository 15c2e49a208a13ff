-- `schedules::schedule_row` meets its contract. Assumes nothing.
use Rattle.judgement_marks.proofs.schedules.Admitting.{schedule-order, scheduled-known}
use Rattle.judgement_marks.proofs.schedules.schedule_row.Goals as goal

pub returns : goal.returns
returns c R h g q m i =
    let f = c.reversed-reversed.ensures R g.notafters q in
    rw (← schedule-order R h) (c.ordered_row.ensures R _ g f q (scheduled-known R g.formed h) (c.scheduled_marks-marks.ensures R h g f q m i))

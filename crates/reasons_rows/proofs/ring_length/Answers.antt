-- `ring_length` meets its contract. Assumes nothing.
use Rattle.std.proofs.Common.{arith}
use Rattle.judgement_marks.proofs.Standing.{marked-off}
use Rattle.reasons_rows.proofs.Ringing.{ringless, ring-length}
use Rattle.reasons_rows.proofs.ring_length.Goals as goal

pub returns-then-marks-r-ne1 : goal.returns-then-marks-r-ne1
returns-then-marks-r-ne1 c = λ R t g q l m. ringless R t g.notafters _ (marked-off R _ _ c.args.r m l c.if-marks-r-ne1.true)

pub returns : goal.returns
returns c =
    λ R t g q l m.
    let costs = c.least_costs-costs.ensures R _ g q (c.ring_search.ensures R t g l m) in
    ring-length R t g.notafters c.args.r l costs _ (λ h. omega (arith, c.min.ensures)) (λ h. omega (arith, c.min.ensures))

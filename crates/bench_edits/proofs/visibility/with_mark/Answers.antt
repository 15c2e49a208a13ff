use mathlib.Core.Path.{◌≡◌, sym, ◌∙◌}
use mathlib.Core.Bool.{true}
use lib.ListN.{get_or}
use Rattle.lists.proofs.Tests.{byte-bit}
use Rattle.lists.proofs.Lists.{clash}
use Rattle.std.proofs.lemmas.Result.{err_from_is_err_and}
use Rattle.ledger.specs.Bench.{Answers}
use Rattle.bench.proofs.Scheduled.{change-made}
use Rattle.bench_edits.proofs.visibility.Visible.{unnamed, unknown-refused, marked-already, must-stands, mark_made}
use Rattle.bench_edits.proofs.visibility.with_mark.Goals as goal
use Rattle.bench_edits.proofs.visibility.with_mark.Goals.{else-hides-via-then-hides+else-planned-index-eq-STANDS, else-hides-via-else-hides}

pub returns-then-not-is_name : goal.returns-then-not-is_name
unfolding Answers
returns-then-not-is_name c = unnamed c.args.bench.now c.args.edit c.args.hides (sym c.is_name.ensures ∙ c.if-not-is_name.true)

pub returns-in_err-index : goal.returns-in_err-index
unfolding Answers
returns-in_err-index c = λ calls e.
    let p = err_from_is_err_and c.from_residual.result c.from_residual.ensures.1 in
    let n = sym c.is_name.ensures ∙ c.if-not-is_name.false in
    rw (p.1, p.2) (unknown-refused c.args.bench.now c.args.edit c.args.hides n _ c.edit_index.ensures.is calls e _ c.in_err-index.ensures.value c.in_err-index.ensures.ok_part)

pub returns-then-marks-index : goal.returns-then-marks-index
unfolding Answers
returns-then-marks-index c = λ calls e.
    let n = sym c.is_name.ensures ∙ c.if-not-is_name.false in
    marked-already c.args.bench.now c.args.edit c.args.hides n _ c.edit_index.ensures.is calls e c.in_ok-index.ensures.ok_part _ (c.from-mark.ensures ∙ byte-bit c.args.hides)
    c.if-marks-index.true

pub returns-then-planned-index-eq-STANDS : goal.returns-then-planned-index-eq-STANDS
unfolding Answers
returns-then-planned-index-eq-STANDS c = λ calls e.
    let n = sym c.is_name.ensures ∙ c.if-not-is_name.false in
    must-stands c.args.bench.now c.args.edit c.args.hides n _ c.edit_index.ensures.is calls e c.in_ok-index.ensures.ok_part _ (c.from-mark.ensures ∙ byte-bit c.args.hides)
    _ (λ R q g. (c.plan-planned.ensures R q g).1) c.if-hides.true c.if-planned-index-eq-STANDS.true

pub returns : goal.returns
unfolding Answers
returns c = λ calls e.
    let n = sym c.is_name.ensures ∙ c.if-not-is_name.false in
    let r : c.args.hides ≡ true → get_or c.plan-planned.result.must c.in_ok-index.index 0 ≡ 1 → ⊥ =
    λ t z. elim c.else-hides.branch [ else-hides-via-then-hides+else-planned-index-eq-STANDS w ↦ w.if-planned-index-eq-STANDS.false z | else-hides-via-else-hides w ↦ clash t w.if-hides.false ] in
    mark_made c.args.bench.now c.args.edit c.args.hides n _ c.edit_index.ensures.is calls e c.in_ok-index.ensures.ok_part _ (c.from-mark.ensures ∙ byte-bit c.args.hides)
    _ (λ R q g. (c.plan-planned.ensures R q g).1) c.if-marks-index.false r _ c.no_election.ensures _
    (change-made _ _ _ _ _ _ (λ R q g. (c.plan-planned.ensures R q g).2) c.reschedule.ensures)

use mathlib.Core.Path.{◌≡◌, refl, sym, ap, ◌∙◌}
use mathlib.Core.Bool.{true, false}
use borrow.Author.Tests.{not-true, not-false}
use Rattle.std.proofs.lemmas.Result.{err_from_is_err_and}
use Rattle.std.specs.Prelude.{Ok, Err}
use Rattle.record.specs.Judgement.{sound}
use Rattle.graph.proofs.indexes.Fit.{checked-fit}
use Rattle.voting.specs.Tally.{election_told}
use Rattle.ledger.specs.Ledger.{start, fed, refusal}
use Rattle.ledger.specs.Bench.{outcome, told_outcome}
use Rattle.ledger.proofs.Valid.{start-valid, fed-valid}
use Rattle.refusals.specs.declared.Refusal.TheVariants.{Unsound}
use Rattle.bench.specs.Changes.{Changes}
use Rattle.bench.proofs.Moves.{bench-record, bench-hidden}
use Rattle.bench.proofs.Scheduled.{change-made}
use Rattle.bench_edits.specs.Joins.{joined_reply, Joins}
use Rattle.bench_edits.proofs.Rows.{keeps-within}
use Rattle.bench_edits.proofs.joined_bench.Goals as goal

pub returns-in_err-union : goal.returns-in_err-union
unfolding Joins
returns-in_err-union c =
    let p = err_from_is_err_and c.from_residual.result c.from_residual.ensures.1 in
    rw (c.in_err-union.was, p.1, p.2) refl

pub returns-then-not-planned : goal.returns-then-not-planned
unfolding Joins joined_reply outcome refusal
returns-then-not-planned c =
    rw c.in_ok-union.was (λ calls U e m k keeps.
    let t : sound U ≡ false = sym (c.plan-planned.ensures U m (checked-fit U k)).0 ∙ not-true _ c.if-not-planned.true in
    rw t (ap (told_outcome (Err Unsound)) e))

pub returns : goal.returns
unfolding Joins joined_reply Changes
returns c =
    rw c.in_ok-union.was (λ calls U e m k keeps.
    let L = fed start calls in
    let v = fed-valid start calls start-valid in
    let t : sound U ≡ true = sym (c.plan-planned.ensures U m (checked-fit U k)).0 ∙ not-false _ c.if-not-planned.false in
    rw t (change-made c.args.bench.now c.in_ok-union.union c.carried-hidden.result c.plan-planned.result.schedule (election_told (Ok c.args.election))
    (told_outcome (Ok c.reschedule.result) c.reschedule.new.bench)
    (λ R m f. (c.plan-planned.ensures R m f).2) c.reschedule.ensures calls U L.hidden e m (keeps-within L v U keeps)
    (c.carried-hidden.ensures L.multilog U L.hidden (bench-record L c.args.bench.now e) m v.checked k v.hidden-written (bench-hidden L c.args.bench.now e)) k t keeps))

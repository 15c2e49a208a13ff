-- `adopted_bench` meets its contract. Assumes nothing.
use mathlib.Core.Path.{refl, sym, ◌∙◌}
use Rattle.std.specs.Prelude.{Ok, Err}
use Rattle.std.proofs.lemmas.Result.{err_from_is_err_and}
use Rattle.voting.specs.Tally.{election_told}
use Rattle.bench_adoption.specs.Adopts.{Adopts}
use Rattle.bench_adoption.proofs.Adopted.{adopt-refused, adopt-open, adopt-won}
use Rattle.bench_adoption.proofs.adopted_bench.Goals as goal

pub returns-in_err-counted : goal.returns-in_err-counted
unfolding Adopts
returns-in_err-counted c =
    let refusal = c.in_err-counted.field-0.0 in
    let p = err_from_is_err_and c.from_residual.result c.from_residual.ensures.1 in
    rw (c.in_err-counted.was, p.1, p.2)
    (λ calls e P roll b h w. adopt-refused e P roll (election_told (Err refusal)) h calls c.args.bench.now b refusal refl)

pub returns-in_default : goal.returns-in_default
unfolding Adopts
returns-in_default c =
    let counted = c.in_ok-counted.counted in
    rw c.in_ok-counted.was
    (λ calls e P roll b h w. adopt-open e P roll (election_told (Ok counted.election)) h calls c.args.bench.now b refl (sym c.in_default.is ∙ w) _ c.accepted.ensures)

pub returns : goal.returns
unfolding Adopts
returns c =
    let counted = c.in_ok-counted.counted in
    rw c.in_ok-counted.was
    (λ calls e P roll b h w. adopt-won e P roll (election_told (Ok counted.election)) h calls c.args.bench.now b c.in-Some.bundle c.merge_record-joined.result _ refl
    (sym c.in-Some.is ∙ w) c.merge_record-joined.ensures c.joined_bench.ensures)

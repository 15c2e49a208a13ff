-- `proposals_fault` meets its contract. Assumes nothing.
use mathlib.Core.Path.{◌≡◌, refl}
use native.Mathlib.Omega.{arith}
use lib.ListN.{length}
use borrow.Author.Rules.{rules}
use Rattle.std.proofs.lemmas.Result.{err_from_is_err_and}
use Rattle.refusals.specs.Numbers.{number}
use Rattle.refusals.proofs.Numbers.{number-positive}
use Rattle.voting_count.proofs.Benches.{first-fault, count-no-fault, all-faultless}
use Rattle.voting_count.proofs.proposals_fault.Goals as goal

pub loop-proposal-init : goal.loop-proposal-init
loop-proposal-init c = λ j h. absurd (omega arith)

pub returns-in_err-lent_fault : goal.returns-in_err-lent_fault
returns-in_err-lent_fault c =
    let z : length c.args.proposals.now ≡ 8 = search rules in
    let lt = c.loop-proposal-test.true in
    let t = c.args.proposals.now in
    let p = err_from_is_err_and c.from_residual.result c.from_residual.ensures.1 in
    let r = c.in_err-lent_fault.field-0.0 in
    rw (p.1, p.2)
    (first-fault (λ x. x.edits.now) (λ x. x.constraints.now) t t c.loop-proposal.proposal-index (omega arith) _ _ refl refl (number r) c.in_err-lent_fault.ensures c.loop-proposal.invariant (number-positive r))

pub loop-proposal-preserved : goal.loop-proposal-preserved
loop-proposal-preserved c =
    let z : length c.args.proposals.now ≡ 8 = search rules in
    let lt = c.loop-proposal-test.true in
    let t = c.args.proposals.now in
    count-no-fault (λ x. x.edits.now) (λ x. x.constraints.now) t t c.loop-proposal.proposal-index (omega arith) _ _ refl refl 0 c.in_ok-lent_fault.ensures c.loop-proposal.invariant refl

pub returns : goal.returns
returns c =
    let z : length c.args.proposals.now ≡ 8 = search rules in
    let lt = c.loop-proposal-test.false in
    let t = c.args.proposals.now in
    all-faultless (λ x. x.edits.now) (λ x. x.constraints.now) t t c.loop-proposal.proposal-index (omega arith) c.loop-proposal.invariant

-- `count` meets its contract. Assumes nothing.
use mathlib.Core.Path.{refl, ap, ◌∙◌}
use Rattle.std.specs.Prelude.{Ok}
use Rattle.std.proofs.lemmas.Result.{err_from_is_err_and}
use Rattle.refusals.specs.Numbers.{number}
use Rattle.refusals.proofs.Numbers.{number-positive}
use Rattle.voting_count.specs.declared.CountedRoll.{CountedRoll}
use Rattle.voting_count.specs.Count.{lent, count_told}
use Rattle.voting_count.proofs.Answers.{count-answered, count-refused}
use Rattle.voting_roll.specs.Election.{cast}
use Rattle.voting.specs.Tally.{winner}
use Rattle.voting_tally.specs.Groups.{tally_of, held_bundle}
use Rattle.voting_count.proofs.count.Goals as goal

pub returns-in_err-counting_for-clause-told : goal.returns-in_err-counting_for-clause-told
returns-in_err-counting_for-clause-told c =
    let p = err_from_is_err_and c.from_residual.result c.from_residual.ensures.1 in
    let r = c.in_err-counting_for.field-0.0 in
    rw (p.1, p.2) (count-refused c.args.edit (lent c.args.poll.now.proposals) c.args.poll.now.roll.now (number r) c.in_err-counting_for.ensures.0 (number-positive r))

pub returns-clause-told : goal.returns-clause-told
returns-clause-told c =
    let e = c.args.edit in
    let P = lent c.args.poll.now.proposals in
    let rows = c.args.poll.now.roll.now in
    let p = c.in_ok-counting_for.ensures in
    ap (λ (k : CountedRoll). count_told (Ok k.counted)) p.1 ∙ count-answered e P rows p.0 (tally_of (cast e P rows)) refl (held_bundle (winner (cast e P rows))) refl

pub returns-clause-bundle : goal.returns-clause-bundle
returns-clause-bundle c = ap (λ (k : CountedRoll). k.counted.bundle) c.in_ok-counting_for.ensures.1

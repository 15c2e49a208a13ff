-- `election` meets its contract. Assumes nothing.
use mathlib.Core.Path.{refl, ap, ◌∙◌}
use Rattle.std.specs.Prelude.{Ok}
use Rattle.std.proofs.lemmas.Result.{err_from_is_err_and}
use Rattle.refusals.specs.Numbers.{number}
use Rattle.refusals.proofs.Numbers.{number-positive}
use Rattle.voting.specs.Tally.{election_told}
use Rattle.voting_tally.specs.Groups.{tally_of}
use Rattle.voting_roll.specs.Election.{cast}
use Rattle.voting_count.specs.declared.CountedRoll.{CountedRoll}
use Rattle.voting_count.specs.Count.{lent}
use Rattle.voting_count.proofs.Answers.{election-answered, election-faulty}
use Rattle.voting_count.proofs.election.Goals as goal

pub returns-in_err-counting_for : goal.returns-in_err-counting_for
returns-in_err-counting_for c =
    let p = err_from_is_err_and c.from_residual.result c.from_residual.ensures.1 in
    let r = c.in_err-counting_for.field-0.0 in
    rw (p.1, p.2) (election-faulty c.args.edit (lent c.args.poll.now.proposals) c.args.poll.now.roll.now (number r) c.in_err-counting_for.ensures.0 (number-positive r))

pub returns : goal.returns
returns c =
    let P = lent c.args.poll.now.proposals in
    let rows = c.args.poll.now.roll.now in
    let p = c.in_ok-counting_for.ensures in
    ap (λ (k : CountedRoll). election_told (Ok k.counted.election)) p.1 ∙ election-answered c.args.edit P rows p.0 (tally_of (cast c.args.edit P rows)) refl

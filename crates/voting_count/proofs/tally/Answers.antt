-- `tally` meets its contract. Assumes nothing.
use mathlib.Core.Path.{sym, ap}
use Rattle.std.proofs.lemmas.Result.{err_from_is_err_and}
use Rattle.refusals.specs.Numbers.{number}
use Rattle.refusals.proofs.Numbers.{number-positive}
use Rattle.voting_count.specs.declared.CountedRoll.{CountedRoll}
use Rattle.voting_count.specs.Count.{lent}
use Rattle.voting_count.proofs.Tallied.{tallied-answered, tallied-refused}
use Rattle.voting_count.proofs.tally.Goals as goal

pub returns-in_err-counting_for : goal.returns-in_err-counting_for
returns-in_err-counting_for c =
    let p = err_from_is_err_and c.from_residual.result c.from_residual.ensures.1 in
    let r = c.in_err-counting_for.field-0.0 in
    rw (p.1, p.2) (tallied-refused c.args.edit (lent c.args.poll.now.proposals) c.args.poll.now.roll.now (number r) c.in_err-counting_for.ensures.0 (number-positive r))

pub returns : goal.returns
returns c =
    let p = c.in_ok-counting_for.ensures in
    tallied-answered c.args.edit (lent c.args.poll.now.proposals) c.args.poll.now.roll.now (sym p.0) _ (ap (λ (k : CountedRoll). k.answers) p.1)

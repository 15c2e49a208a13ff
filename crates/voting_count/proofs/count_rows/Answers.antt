-- `count_rows` meets its contract. Assumes nothing.
use mathlib.Core.Path.{ap}
use Rattle.std.proofs.lemmas.Result.{err_from_is_err_and}
use Rattle.voting_roll.specs.Election.{cast}
use Rattle.voting_count.specs.Counting.{Counting}
use Rattle.voting_count.proofs.count_rows.Goals as goal

pub returns-in_err-answers : goal.returns-in_err-answers
returns-in_err-answers c =
    let p = err_from_is_err_and c.from_residual.result c.from_residual.ensures.1 in
    λ P h k. rw (p.1, p.2) ((c.in_err-answers.ensures P h k c.no_votes-tally.ensures).0, tt)

pub returns : goal.returns
returns c = λ P h k.
    let w = c.in_ok-answers.ensures P h k c.no_votes-tally.ensures in
    let t = ap (λ (k : Counting). k.tally) w.1 in
    let bundle = c.won_bundle.ensures (cast c.args.name P c.args.roll.now) t in
    (w.0, λ i. record { counted = record { election = (t i).election; bundle = bundle i }; answers = (w.1 i).answers })

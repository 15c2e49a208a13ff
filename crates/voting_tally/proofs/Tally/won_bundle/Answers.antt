-- `won_bundle` meets its contract. Assumes nothing.
use mathlib.Core.Bool.{true, false}
use borrow.Author.Rules.{rules}
use borrow.Author.Tests.{tests}
use Rattle.std.proofs.lemmas.Iterator.{YieldsList-from_slice, first_from_find}
use Rattle.voting_tally.proofs.Winners.{IsWon, winner-found}
use Rattle.voting_tally.proofs.Tally.won_bundle.Goals as goal

pub returns : goal.returns
returns c = λ l e.
    let t = c.args.self.now in
    let w = winner-found t l e c.group_slice.result.now c.find-winner.result c.group_slice.ensures
    (first_from_find _ _ _ (IsWon t.election.total true) (IsWon t.election.total false) c.find-winner.ensures.ran (YieldsList-from_slice c.group_slice.result.now cc) (λ x q k. search (rules, tests)) (λ x q k. search (rules, tests))) in
    search rules

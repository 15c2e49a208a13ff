-- `place_of` meets its contract. Assumes nothing.
use borrow.Author.Rules.{rules}
use borrow.Author.Tests.{tests}
use mathlib.Core.Bool.{true, false}
use Rattle.std.proofs.lemmas.Iterator.{YieldsList-from_slice, IsFirst-from_position}
use Rattle.voting_tally.proofs.Steps.{IsSameBundle, bundle-place}
use Rattle.voting_tally.proofs.place_of.Goals as goal

pub returns-clause-is : goal.returns-clause-is
returns-clause-is c = λ l s C g p.
    let x = c.args.bundle.now in
    bundle-place x c.args.groups.now c.position.result l s C g p
    (IsFirst-from_position _ _ _ (IsSameBundle true x) (IsSameBundle false x) c.position.ensures.ran (YieldsList-from_slice c.args.groups.now cc) (λ x q k. search (rules, tests)) (λ x q k. search (rules, tests)))

-- `add_vote` meets its contract. Assumes nothing.
use mathlib.Core.Path.{◌≡◌}
use native.Mathlib.Omega.{arith}
use mathlib.Core.List.{[], ◌∷◌, ◌++◌}
use Rattle.voting_tally.specs.Groups.{tally_of}
use Rattle.voting_tally.proofs.Steps.{silent-by, bundle-by}
use Rattle.voting_tally.proofs.Tally.add_vote.Goals as goal

pub returns-in_default : goal.returns-in_default
returns-in_default c = (
  omega (arith, c.ranges.weight.fits),
  λ l v e h t p. silent-by (λ u. c.add_silent.new.self ≡ tally_of (l ++ (record { weight = c.args.weight; vote = u } ∷ []))) c.args.cast.now v p c.in_default.is (c.add_silent.ensures l e t),
)

pub returns : goal.returns
returns c = (
  omega (arith, c.ranges.weight.fits),
  λ l v e h t p. bundle-by (λ u. c.add_bundle.new.self ≡ tally_of (l ++ (record { weight = c.args.weight; vote = u } ∷ []))) c.args.cast.now v p c.in-Bundle.is
      (λ B q. c.add_bundle.ensures l B e h t q),
)

-- `vote_in` meets its contract. Assumes nothing.
use mathlib.Core.Path.{◌≡◌, ap, sym, ◌∙◌}
use Prim.Native.Nat.{◌+◌, ◌-◌, ◌<◌}
use native.Mathlib.Omega.{arith}
use Rattle.voting.specs.Bundle.{vote}
use Rattle.voting_tally.specs.Groups.{cast_of}
use Rattle.voting_count.proofs.Proposals.{held-checked, bench-faultless, decoded-at}
use Rattle.voting_roll.specs.Election.{held}
use Rattle.voting_count.proofs.vote_in.Goals as goal

pub returns : goal.returns
returns c = λ P h e low high.
    let x = c.clamp-k.result in
    let q : c.args.bench ≡ (x - 1) + 1 = omega (arith, c.clamp-k.ensures, c.from.ensures) in
    let k : x - 1 < 8 = omega (arith, q) in
    c.vote_of.ensures (held P ((x - 1) + 1)) (decoded-at P c.args.proposals.now e (x - 1) _ k) (held-checked P ((x - 1) + 1) (bench-faultless P h (x - 1) k))
    ∙ ap (λ j. cast_of (vote (held P j) c.args.name)) (sym q)

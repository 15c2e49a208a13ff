-- `add_silent` meets its contract. Assumes nothing.
use mathlib.Core.Path.{◌≡◌, ap, ◌∙◌}
use Prim.Native.Nat.{◌+◌}
use native.Mathlib.Omega.{arith}
use Rattle.voting_tally.proofs.Steps.{total-is, silent-within, silent-step}
use Rattle.voting_tally.proofs.Tally.add_silent.Goals as goal

pub returns : goal.returns
returns c = λ l e h.
    let t = c.args.self.now in
    let w = c.args.weight in
    let f = c.ranges.weight.fits in
    let p : c.saturating_add.result ≡ t.election.silent + w = omega (arith, silent-within t l w e, c.saturating_add.ensures, c.from-weight.ensures) in
    let q : c.saturating_add-2.result ≡ t.election.total + w = omega (arith, total-is t l w e, c.saturating_add-2.ensures, c.from-weight.ensures) in
    ap (λ x. record { groups = t.groups; count = t.count; election = x }) c.answer-self.ensures ∙ silent-step t l w e c.saturating_add.result c.saturating_add-2.result p q

-- `add_bundle` meets its contract. Assumes nothing.
use mathlib.Core.Path.{◌≡◌, ap, ◌∙◌}
use Prim.Native.Nat.{◌+◌}
use native.Mathlib.Omega.{arith}
use lib.ListN.{set}
use Rattle.voting_tally.proofs.Steps.{total-is, tally-room, vote-placed, weight-raised, bundle-step}
use Rattle.voting_tally.proofs.Tally.add_bundle.Goals as goal

pub returns-then-n-ge-BENCHES : goal.returns-then-n-ge-BENCHES
returns-then-n-ge-BENCHES c = λ l C e h t p. absurd (omega (arith, tally-room c.args.self.now l c.args.weight e C h))

pub returns : goal.returns
returns c = λ l C e h t p.
    let t' = c.args.self.now in
    let w = c.args.weight in
    let f = c.ranges.weight.fits in
    let i = c.unwrap_or-i.result in
    let m = c.saturating_add-more.result in
    let pi = vote-placed t' l w e C h c.place_of.result i (λ k u D g q. c.place_of.ensures.is k u D (c.group_slice.ensures ∙ g) (p ∙ q)) c.unwrap_or-i.ensures in
    let pm = weight-raised t' l w e C h _ i m c.from-weight.result pi t f c.from-weight.ensures c.saturating_add-more.ensures in
    let pt : c.saturating_add.result ≡ t'.election.total + w = omega (arith, total-is t' l w e, c.saturating_add.ensures, c.from-weight.ensures) in
    ap (λ x. record { groups = set t'.groups i (record { bundle = c.args.bundle.now; weight = m }); count = c.max-self.result; election = x }) c.answer-self.ensures
    ∙ bundle-step t' l w e C h _ c.args.bundle.now i m c.max-self.result c.max.result c.saturating_add.result p pi pm c.max-self.ensures c.max.ensures pt

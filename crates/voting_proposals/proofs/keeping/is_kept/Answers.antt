-- `keeping::is_kept` meets its contract. Assumes nothing.
use mathlib.Core.Path.{◌∙◌}
use Rattle.voting.specs.Bundle.{bundle}
use Rattle.voting_bundles.proofs.Judging.{bundle-fit, eligible-all}
use Rattle.voting_proposals.proofs.keeping.Keeping.{same_kept, other-kept}
use Rattle.voting_proposals.proofs.keeping.is_kept.Goals as goal

pub returns-then-same_bundle : goal.returns-then-same_bundle
returns-then-same_bundle c = λ Q P e f g h m n.
    let x = c.args.name in
    same_kept Q P x (c.same_bundle.ensures (bundle P x) (bundle Q x) (c.bundle-after.ensures P g h n) (c.bundle-before.ensures Q e f m)) c.if-same_bundle.true

pub returns : goal.returns
returns c = λ Q P e f g h m n.
    let x = c.args.name in
    let b = c.bundle-before.ensures Q e f m in
    other-kept Q P x (c.same_bundle.ensures (bundle P x) (bundle Q x) (c.bundle-after.ensures P g h n) b) c.if-same_bundle.false (c.all_settled.ensures (bundle Q x) b (bundle-fit Q f x) ∙ eligible-all Q x)

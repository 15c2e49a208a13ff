-- `with_share` meets its contract. Assumes nothing.
use Rattle.unity_table.proofs.Steps.{share-addable, group-kept, share-wide, share-fits}
use Rattle.unity_table.proofs.Summed.with_share.Goals as goal

pub plus-requires : goal.plus-requires
plus-requires c = rw c.share-share.ensures (share-addable c.args.self c.args.a c.requires.0 c.requires.1.0 c.requires.1.1)

pub returns-in_err-sum : goal.returns-in_err-sum
returns-in_err-sum c =
    let e = rw c.share-share.ensures at c.in_err-sum.ensures in
    rw c.from_residual.ensures (share-wide c.args.self c.args.a c.requires.0 c.requires.1.0 c.requires.1.1 e)

pub with_sum-requires : goal.with_sum-requires
with_sum-requires c = (c.requires.0, group-kept c.args.self c.args.a c.requires.0 c.requires.1.0 c.requires.1.1)

pub returns : goal.returns
returns c =
    let e = rw c.share-share.ensures at c.in_ok-sum.ensures in
    rw (c.with_sum.ensures, c.share-share.ensures) (share-fits c.args.self c.args.a c.requires.0 c.requires.1.0 c.requires.1.1 c.in_ok-sum.sum e)

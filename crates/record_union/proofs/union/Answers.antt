-- `union` meets its contract. Assumes nothing.
use Rattle.record_union.proofs.Records.{uniting}
use Rattle.record_union.proofs.union.Goals as goal

pub returns : goal.returns
returns c = λ R S e f u v.
    uniting R S u v c.args.joined c.args.joining e f c.edit_slice.ensures c.edit_slice-2.ensures c.constraint_slice.ensures c.constraint_slice-2.ensures c.unite-edit_count.ensures c.unite-constraint_count.ensures

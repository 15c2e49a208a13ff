-- `pair_not_allowed` meets its contract. Assumes nothing.
use mathlib.Core.Bool.{not, ◌&&◌}
use lib.Dec.{eqb, ltb}
use Rattle.record_tables.specs.Table.{pair_not_allowed}
use Rattle.record_tables.proofs.Further.{or-four}
use Rattle.record_tables.proofs.pair_not_allowed.Goals as goal

pub returns : goal.returns
unfolding pair_not_allowed
returns c =
    let s = c.args in
    or-four (eqb s.left 0) (eqb s.right 0 && not (eqb s.rule 1)) (eqb s.left s.right && not (eqb s.rule 0)) (eqb s.rule 2 && ltb s.right s.left)

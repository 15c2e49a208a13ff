use Rattle.record_union.proofs.Joining.{UnionWalk}
use Rattle.record_union.proofs.unite.Given as goal

abbrev pub invariant-loop-count : goal.invariant-loop-count
invariant-loop-count g l = UnionWalk g.T.Element.key_of g.row.PLACES g.T.Element.filler l.own l.joining l.elements l.own_rest l.joining_rest l.count

use Prim.Native.Nat.{◌≤◌}
use lib.ListN.{length}
use Rattle.record_rows.proofs.grounds.Loop.{State}
use Rattle.record_union.proofs.refusal.table_fault.Given as goal

abbrev pub invariant-loop-i : goal.invariant-loop-i
invariant-loop-i g l =
    (l.passed ≤ length l.own)
    × State (record { key = g.T.Element.KEY; limit = g.T.Element.PLACES; in_range = g.T.Element.fits; further = g.F.Further.number l.further }) g.T.Element.row_of l.own l.t l.passed l.count l.i

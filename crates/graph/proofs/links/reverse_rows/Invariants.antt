use Prim.Native.Nat.{◌≤◌}
use Rattle.graph.proofs.links.Reversing.{Noter}
use Rattle.graph.proofs.links.reverse_rows.Given as goal

abbrev pub invariant-loop-j : goal.invariant-loop-j
invariant-loop-j l = (l.j ≤ 1024) × Noter l.rows l.b l.initial.reversed l.j l.reversed

abbrev pub decreases-loop-j : goal.decreases-loop-j
decreases-loop-j l = l.j

use Rattle.unity_table.proofs.Rows.{Read}
use Rattle.unity_table.proofs.unity_of.Given as goal

abbrev pub invariant-loop-row : goal.invariant-loop-row
invariant-loop-row l = Read l.answers l.row-index l.summed

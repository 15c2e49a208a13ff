use mathlib.Core.Path.{◌≡◌}
use Rattle.voting_proposals.proofs.Written.{written_rows}
use Rattle.voting_proposals.proofs.write_rows.Given as goal

abbrev pub invariant-loop-i : goal.invariant-loop-i
invariant-loop-i g l = l.table ≡ written_rows g.T.Element.row_of l.elements l.fn.table l.i

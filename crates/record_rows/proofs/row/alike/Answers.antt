-- `row::alike` meets its contract. Assumes nothing.
use mathlib.Core.Path.{◌∙◌}
use lib.ListN.{take}
use Rattle.record_rows.proofs.row.Compared.{slice-same}
use Rattle.record_rows.proofs.row.alike.Goals as goal

pub returns : goal.returns
returns c = let s = c.args in c.eq.ensures ∙ slice-same (take s.k s.a.now) (take s.k s.b.now)

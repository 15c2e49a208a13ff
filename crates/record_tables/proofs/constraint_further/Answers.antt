-- `constraint_further` meets its contract. Assumes nothing.
use mathlib.Core.Path.{◌∙◌}
use Rattle.record_tables.proofs.Further.{further_is}
use Rattle.record_tables.proofs.constraint_further.Goals as goal

pub returns : goal.returns
returns c = λ names k. let s = c.args in c.marked_further.ensures ∙ further_is names s.adding s.row s.marks.now k

-- `init_search` meets its contract. Assumes nothing.
use mathlib.Core.Path.{refl}
use Rattle.reasons_rows.proofs.Aiming.{init-searches}
use Rattle.reasons_rows.proofs.init_search.Goals as goal

pub returns : goal.returns
returns c = λ R g q. init-searches R _ g.notafters.few refl (c.all_marks.ensures R q) refl

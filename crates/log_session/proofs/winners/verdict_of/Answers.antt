-- `winners::verdict_of` meets its contract. Assumes nothing.
use mathlib.Core.Path.{◌∙◌}
use Rattle.log_session.proofs.winners.Won.{verdict-is}
use Rattle.log_session.proofs.winners.verdict_of.Goals as goal

pub returns : goal.returns
returns c =
    let s = c.args in
    let t = c.index_table-table in
    λ R q f i. verdict-is R s.edit i (c.index_of-index.ensures.is ∙ t.ensures R q f s.edit) (c.musts-musts.ensures R q f) (c.nevers-nevers.ensures R q f)

-- `links::Rows::leads_either_way` meets its contract. Assumes nothing.
use mathlib.Core.Path.{sym, ◌∙◌}
use Rattle.graph.proofs.links.Rows.leads_either_way.Goals as goal

pub returns-then-leads_to : goal.returns-then-leads_to
returns-then-leads_to c leads R g h k = rw (sym (c.leads_to.ensures leads R g h k) ∙ c.if-leads_to.true) c.if-leads_to.true

pub returns-else-leads_to : goal.returns-else-leads_to
returns-else-leads_to c leads R g h k =
    rw (sym (c.leads_to.ensures leads R g h k) ∙ c.if-leads_to.false) (c.leads_to-else-leads_to.ensures leads R g k h)

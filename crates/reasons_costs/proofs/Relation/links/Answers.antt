-- `Relation::links` meets its contract. Assumes nothing.
use Rattle.reasons_costs.proofs.Relation.links.Goals as goal

pub returns-in-EnabledBy : goal.returns-in-EnabledBy
returns-in-EnabledBy c R g h k = rw c.in-EnabledBy.is (c.leads_to-in-EnabledBy.ensures _ R g.enablers k h)

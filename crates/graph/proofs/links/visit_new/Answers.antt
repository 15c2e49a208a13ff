-- `links::visit_new` meets its contract. Assumes nothing.
use mathlib.Core.Path.{refl}
use Rattle.graph.proofs.links.visit_new.Goals as goal

pub returns-then-old-x-eq1 : goal.returns-then-old-x-eq1
returns-then-old-x-eq1 c = record { new = λ f. absurd (f c.if-old-x-eq1.true); was = λ o. (refl, refl) }

pub returns : goal.returns
returns c = record { new = λ f. c.visit.ensures; was = λ o. absurd (c.if-old-x-eq1.false o) }

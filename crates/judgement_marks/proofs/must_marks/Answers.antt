-- `must_marks` meets its contract. Assumes nothing.
use mathlib.Core.Path.{◌∙◌}
use mathlib.Core.List.{[]}
use Rattle.judgement_marks.proofs.Standing.{none-closed, must-closure, names-some}
use Rattle.graph.proofs.links.Marks.{none-marked}
use Rattle.record.specs.Record.{names, enables}
use Rattle.lists.proofs.Lists.{nil-within}
use Rattle.record.proofs.Records.{enabler-known}
use Rattle.judgement_marks.proofs.must_marks.Goals as goal

pub returns : goal.returns
returns c R g =
    c.close.ensures (enables R) R (names R) [] g.enablers (enabler-known g.formed) (none-closed R) (names-some R) (nil-within (names R)) (none-marked R g.enablers.few) ∙ must-closure R

-- `with_needs` meets its contract. Assumes nothing.
use mathlib.Core.Path.{◌∙◌}
use Rattle.judgement_marks.proofs.Standing.{needs-names}
use Rattle.record.specs.Record.{names, enables}
use Rattle.record.proofs.Records.{enabler-known}
use Rattle.judgement_marks.proofs.with_needs.Goals as goal

pub returns : goal.returns
returns c R s g l z sub e =
    c.close.ensures (enables R) R (names R) s g.enablers (enabler-known g.formed) z l sub (c.copy_from_slice.ensures.after ∙ e) ∙ needs-names R s _

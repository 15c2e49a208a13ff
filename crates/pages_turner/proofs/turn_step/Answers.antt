use Rattle.std.proofs.Common.{sym, ◌∙◌, ◌≡◌, arith}
use Rattle.std.specs.Prelude.{option_and_then}
use Rattle.std.proofs.lemmas.Grind.{common_steps}
use Rattle.pages_turner.specs.Turn.{turn_of}
use Rattle.pages_turner.proofs.Signed.{step-is, within}
use Rattle.pages_turner.proofs.turn_step.Goals as goal

pub returns-then-opened-gt-EDITS : goal.returns-then-opened-gt-EDITS
unfolding turn_of
returns-then-opened-gt-EDITS c = grind (arith, common_steps)

pub returns : goal.returns
returns c =
    let t = step-is c.args.opened c.args.last c.args.by c.checked_add_signed.result c.if-opened-gt-EDITS.false (omega arith) c.ranges.by c.checked_add_signed.ensures in
    let q : c.filter.result ≡ option_and_then (within c.args.last) c.checked_add_signed.result = grind (arith, common_steps) in
    q ∙ sym t

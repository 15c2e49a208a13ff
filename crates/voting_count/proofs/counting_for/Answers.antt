-- `counting_for` meets its contract. Assumes nothing.
use mathlib.Core.Path.{refl, sym, ◌∙◌}
use Rattle.std.proofs.lemmas.Result.{err_from_is_err_and}
use Rattle.refusals.proofs.Numbers.{number-positive}
use Rattle.voting_count.specs.Count.{lent}
use Rattle.voting_count.proofs.Answers.{count-rows-refused, whole-of-name, whole-of-sound, grounds-left}
use Rattle.voting_count.proofs.counting_for.Goals as goal

pub returns-in_err-proposals_fault : goal.returns-in_err-proposals_fault
returns-in_err-proposals_fault c =
    let p = err_from_is_err_and c.from_residual.result c.from_residual.ensures.1 in
    rw (p.1, p.2) (count-rows-refused _ _ _ c.in_err-proposals_fault.field-0.0 c.in_err-proposals_fault.ensures, tt)

pub returns-in-Err : goal.returns-in-Err
returns-in-Err c =
    let e = c.args.edit in
    let P = lent c.args.poll.now.proposals in
    let z = c.in_ok-proposals_fault.ensures in
    let k = c.in-Err.ensures (sym z) in
    (c.after_roll.ensures ∙ grounds-left e P c.args.poll.now.roll.now z (whole-of-name e P k.0 (number-positive c.in-Err.refusal)), tt)

pub returns : goal.returns
returns c =
    let e = c.args.edit in
    let P = lent c.args.poll.now.proposals in
    let z = c.in_ok-proposals_fault.ensures in
    let k = c.in-Ok.ensures (sym z) in
    rw (grounds-left e P c.args.poll.now.roll.now z (whole-of-sound e P k.0 refl), k.1) at (c.count_sound.ensures (sym z))

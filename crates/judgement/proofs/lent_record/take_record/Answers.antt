-- `lent_record::take_record` meets its contract. Assumes nothing.
use Rattle.std.proofs.Common.{rules, sym}
use Rattle.refusals.specs.Numbers.{number}
use Rattle.refusals.proofs.Numbers.{number-positive}
use Rattle.judgement.proofs.lent_record.Lent.{lent-refused, lent-taken, lent-sound, lent-unsound}
use Rattle.judgement.proofs.lent_record.take_record.Goals as goal

pub returns-in_err-multilog-clause-fault : goal.returns-in_err-multilog-clause-fault
returns-in_err-multilog-clause-fault c =
    rw (← lent-refused c.args.lent.edits.now c.args.lent.constraints.now (number c.in_err-multilog.field-0.0) c.in_err-multilog.ensures.0 (number-positive _)) (search rules)

pub returns-then-sound-clause-fault : goal.returns-then-sound-clause-fault
returns-then-sound-clause-fault c =
    lent-sound c.args.lent.edits.now c.args.lent.constraints.now (sym c.in_ok-multilog.ensures.0) _ c.in_ok-multilog.ensures.1 _ c.sound.ensures c.if-sound.true

pub returns-then-sound-clause-taken : goal.returns-then-sound-clause-taken
returns-then-sound-clause-taken c =
    lent-taken c.args.lent.edits.now c.args.lent.constraints.now (sym c.in_ok-multilog.ensures.0) _ c.in_ok-multilog.ensures.1 _ c.sound.ensures c.if-sound.true

pub returns-else-sound-clause-fault : goal.returns-else-sound-clause-fault
returns-else-sound-clause-fault c =
    lent-unsound c.args.lent.edits.now c.args.lent.constraints.now (sym c.in_ok-multilog.ensures.0) _ c.in_ok-multilog.ensures.1 _ c.sound.ensures c.if-sound.false

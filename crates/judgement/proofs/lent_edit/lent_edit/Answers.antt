-- `lent_edit::lent_edit` meets its contract. Assumes nothing.
use mathlib.Core.Path.{sym}
use Rattle.std.proofs.lemmas.Result.{err_from_is_err_and}
use Rattle.record_tables.proofs.Records.{lent-checked}
use Rattle.judgement.proofs.lent_record.Lent.{is-sound, lent-taken}
use Rattle.judgement.proofs.lent_edit.Asked.{lent-rows-refused, edit-refused, unsound-refused, edit-accepted}
use Rattle.judgement.proofs.lent_edit.lent_edit.Goals as goal

pub returns-in_err-multilog-clause-fault : goal.returns-in_err-multilog-clause-fault
returns-in_err-multilog-clause-fault c =
    let p = err_from_is_err_and c.from_residual.result c.from_residual.ensures.1 in
    rw (p.1, p.2) (lent-rows-refused _ _ _ c.in_err-multilog.field-0.0 c.in_err-multilog.ensures.0)

pub returns-in_err-known-clause-fault : goal.returns-in_err-known-clause-fault
returns-in_err-known-clause-fault c =
    let p = err_from_is_err_and c.from_residual-in_err-known.result c.from_residual-in_err-known.ensures.1 in
    let q = c.in_ok-multilog.ensures in
    rw (p.1, p.2) (edit-refused _ _ _ q.0 _ (c.in_err-known.ensures.fault _ q.1 (lent-checked _ _ (sym q.0))))

pub returns-then-not-sound-clause-fault : goal.returns-then-not-sound-clause-fault
returns-then-not-sound-clause-fault c =
    let q = c.in_ok-multilog.ensures in
    unsound-refused _ _ _ q.0 (c.in_ok-known.ensures.fault _ q.1 (lent-checked _ _ (sym q.0))) (is-sound _ _ (sym q.0) _ q.1 _ c.sound.ensures) c.if-not-sound.true

pub returns-clause-fault : goal.returns-clause-fault
returns-clause-fault c =
    let q = c.in_ok-multilog.ensures in
    edit-accepted _ _ _ q.0 (c.in_ok-known.ensures.fault _ q.1 (lent-checked _ _ (sym q.0))) (is-sound _ _ (sym q.0) _ q.1 _ c.sound.ensures) c.if-not-sound.false

pub returns-clause-taken : goal.returns-clause-taken
returns-clause-taken c =
    let q = c.in_ok-multilog.ensures in
    rw c.in_ok-known.ensures.known.0 (lent-taken _ _ (sym q.0) _ q.1 _ c.sound.ensures c.if-not-sound.false)

pub returns-clause-known : goal.returns-clause-known
returns-clause-known c = let q = c.in_ok-multilog.ensures in c.in_ok-known.ensures.known.1 _ q.1 (lent-checked _ _ (sym q.0))

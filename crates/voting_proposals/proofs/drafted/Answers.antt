-- `drafted` meets its contract. Assumes nothing.
use Rattle.std.proofs.lemmas.Result.{err_from_is_err_and}
use Rattle.voting_proposals.proofs.Drafts.{unsound-old, no-place-before, unsound-start, no-place-after, drafted_is}
use Rattle.voting_proposals.proofs.drafted.Goals as goal

pub returns-then-not-sound : goal.returns-then-not-sound
returns-then-not-sound c = λ M Q e k f j. (unsound-old M Q e k f j c.sound.ensures c.if-not-sound.true, tt)

pub returns-in_err-first : goal.returns-in_err-first
returns-in_err-first c = λ M Q e k f j.
    let r = err_from_is_err_and c.from_residual.result c.from_residual.ensures.1 in
    rw (r.1, r.2) (no-place-before M Q e k f j c.sound.ensures c.if-not-sound.false c.in_err-first.ensures, tt)

pub returns-then-not-sound-2 : goal.returns-then-not-sound-2
returns-then-not-sound-2 c = λ M Q e k f j.
    (unsound-start M Q e k f j c.sound.ensures c.if-not-sound.false c.in_ok-first.ensures c.in_record-started.ensures c.sound-2.ensures c.if-not-sound-2.true, tt)

pub returns-in_err-last : goal.returns-in_err-last
returns-in_err-last c = λ M Q e k f j.
    let r = err_from_is_err_and c.from_residual-in_err-last.result c.from_residual-in_err-last.ensures.1 in
    rw (r.1, r.2)
    (no-place-after M Q e k f j c.sound.ensures c.if-not-sound.false c.in_ok-first.ensures c.in_record-started.ensures c.sound-2.ensures c.if-not-sound-2.false c.in_err-last.ensures, tt)

pub returns : goal.returns
returns c = λ M Q e k f j.
    drafted_is M Q e k f j c.sound.ensures c.if-not-sound.false c.in_ok-first.ensures c.in_record-started.ensures c.sound-2.ensures c.if-not-sound-2.false
    c.in_ok-last.ensures c.in_record.ensures

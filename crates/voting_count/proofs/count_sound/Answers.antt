-- `count_sound` meets its contract. Assumes nothing.
use mathlib.Core.Path.{sym, ap, ◌∙◌}
use mathlib.Core.Bool.{not}
use Rattle.record_rows.specs.grounds.Ground.{◌given◌, ◌orelse◌}
use Rattle.record_rows.proofs.grounds.Grounds.{orelse-zero}
use Rattle.voting_roll.specs.Roll.{roll_faulty}
use Rattle.voting_count.specs.Count.{lent}
use Rattle.voting_count.proofs.count_sound.Goals as goal

pub returns-then-not-decode_sound : goal.returns-then-not-decode_sound
returns-then-not-decode_sound c = λ h.
    let s = sym c.if-not-decode_sound.true ∙ c.decode_sound.ensures.judged h in
    (c.after_roll.ensures ∙ ap (λ b. 14 given roll_faulty c.args.poll.now.roll.now orelse 8 given not b) s, tt)

pub returns : goal.returns
returns c = λ h.
    let f = 14 given roll_faulty c.args.poll.now.roll.now in
    let s = sym c.if-not-decode_sound.false ∙ c.decode_sound.ensures.judged h in
    let a = c.count_rows.ensures (lent c.args.poll.now.proposals) h (c.decode_sound.ensures.decoded h c.if-not-decode_sound.false) in
    (a.0 ∙ (sym (orelse-zero f) ∙ ap (λ b. f orelse 8 given not b) s), a.1)

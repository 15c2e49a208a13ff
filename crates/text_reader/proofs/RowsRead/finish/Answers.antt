-- `RowsRead::finish` meets its contract. Assumes nothing.
use Rattle.std.proofs.Common.{◌∙◌, sym}
use Rattle.text_reader.proofs.Feeding.{finish-headless, finish-sound, finish-unsound}
use Rattle.text_reader.proofs.RowsRead.finish.Goals as goal

pub returns-then-awaits_header : goal.returns-then-awaits_header
returns-then-awaits_header g c = finish-headless g.M.Manner.manner c.args.self.now (sym c.awaits_header.ensures ∙ c.if-awaits_header.true)

pub returns-then-sound : goal.returns-then-sound
returns-then-sound g c =
    rw (← c.self.view_is) (finish-sound g.M.Manner.manner _ (rw (← c.self.view_is) at (sym c.awaits_header.ensures ∙ c.if-awaits_header.false)) (c.gathered-content.ensures c.self.invariant.above.faultless) c.sound.ensures c.if-sound.true)

pub returns : goal.returns
returns g c =
    rw (← c.self.view_is) (finish-unsound g.M.Manner.manner _ (rw (← c.self.view_is) at (sym c.awaits_header.ensures ∙ c.if-awaits_header.false)) (c.gathered-content.ensures c.self.invariant.above.faultless) c.sound.ensures c.if-sound.false)

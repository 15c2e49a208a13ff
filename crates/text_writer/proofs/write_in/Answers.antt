-- `write_in` meets its contract. Assumes nothing.
use Rattle.std.proofs.Common.{arith}
use Rattle.record.specs.Stored.{record_of}
use Rattle.text.specs.Text.{written_in}
use Rattle.text_writer.specs.Placed.{headed_text}
use Rattle.text_writer.proofs.Placing.{not-placed, no_room, has_room, written-there}
use Rattle.text_writer.proofs.Texts.{arranged-text}
use Rattle.text_writer.proofs.write_in.Goals as goal

pub returns-then-out-at : goal.returns-then-out-at
returns-then-out-at g c =
    let s = c.args in
    let p = not-placed (written_in g.M.Manner.manner (record_of s.content)) s.out.now s.at (omega (arith, c.if-out-at.true)) in
    record { answer = p.0; bytes = p.1 }

pub returns-then-not-text_fits : goal.returns-then-not-text_fits
returns-then-not-text_fits g c =
    let s = c.args in
    let e = arranged-text g.M.Manner.manner s.content c.arranged-content.result c.arranged-content.ensures in
    let p = no_room (written_in g.M.Manner.manner (record_of s.content)) s.out.now s.at c.if-out-at.false (rw e at c.text_fits.ensures) c.if-not-text_fits.true in
    record { answer = p.0; bytes = p.1 }

pub write_headed-requires : goal.write_headed-requires
write_headed-requires g c =
    let s = c.args in
    has_room (headed_text g.M.Manner.manner c.arranged-content.result) s.out.now s.at c.if-out-at.false c.text_fits.ensures c.if-not-text_fits.false

pub returns : goal.returns
returns g c =
    let s = c.args in
    let e = arranged-text g.M.Manner.manner s.content c.arranged-content.result c.arranged-content.ensures in
    let p = written-there (written_in g.M.Manner.manner (record_of s.content)) s.out.now s.at c.if-out-at.false (rw e at c.text_fits.ensures) c.if-not-text_fits.false (rw e at c.write_headed.ensures) in
    record { answer = p.0; bytes = p.1 }

-- `place_form` meets its contract. Assumes nothing.
use Rattle.std.proofs.Common.{arith}
use Rattle.text_writer.proofs.Placing.{not-placed, no_room, has_room, written-there}
use Rattle.text_forms.specs.Form.{fill}
use Rattle.text_writer.proofs.place_form.Goals.{then-out-at-via-then-out-at, then-out-at-via-else-out-at+then-not-form_fits}
use Rattle.text_writer.proofs.place_form.Goals as goal

pub returns-then-out-at : goal.returns-then-out-at
returns-then-out-at c =
    let s = c.args in
    let text = fill s.form.now s.numbers.now in
    elim c.then-out-at.branch [
      | then-out-at-via-then-out-at w ↦ let p = not-placed text s.out.now s.at (omega (arith, w.if-out-at.true)) in record { answer = p.0; bytes = p.1 }
      | then-out-at-via-else-out-at+then-not-form_fits w ↦ let p = no_room text s.out.now s.at w.if-out-at.false w.form_fits.ensures w.if-not-form_fits.true in record { answer = p.0; bytes = p.1 }
    ]

pub write_form-requires : goal.write_form-requires
write_form-requires c = let s = c.args in has_room (fill s.form.now s.numbers.now) s.out.now s.at c.if-out-at.false c.form_fits.ensures c.if-not-form_fits.false

pub returns : goal.returns
returns c =
    let s = c.args in
    let p = written-there (fill s.form.now s.numbers.now) s.out.now s.at c.if-out-at.false c.form_fits.ensures c.if-not-form_fits.false c.write_form.ensures in
    record { answer = p.0; bytes = p.1 }

-- `form_fits` meets its contract. Assumes nothing.
use Rattle.text_forms.proofs.Filling.{fitting-ample}
use Rattle.text_forms.proofs.form_fits.Goals as goal

pub returns-then-form-room : goal.returns-then-form-room
returns-then-form-room c = let s = c.args in fitting-ample s.form.now s.numbers.now s.room (λ k. (c.type_inv.numbers k).fits) c.if-form-room.true

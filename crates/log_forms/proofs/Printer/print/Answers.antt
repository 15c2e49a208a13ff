-- `Printer::print` meets its contract. Assumes nothing.
use Rattle.text_forms.specs.Form.{fill}
use Rattle.log_forms.proofs.Printing.{text-printed}
use Rattle.log_forms.proofs.Printer.print.Goals as goal

pub returns : goal.returns
returns c = rw c.place_at.ensures (text-printed (fill c.args.form.now c.args.numbers.now) c.args.self.now c.place_form-end.ensures.answer c.place_form-end.ensures.bytes)

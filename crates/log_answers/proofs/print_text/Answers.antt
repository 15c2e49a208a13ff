-- `print_text` meets its contract. Assumes nothing.
use Rattle.record.specs.Stored.{record_of}
use Rattle.text.specs.Text.{text_of}
use Rattle.log_forms.proofs.Printing.{text-printed}
use Rattle.log_answers.proofs.print_text.Goals as goal

pub returns : goal.returns
returns c = let s = c.args in let w = c.write_text-end.ensures in rw c.place_at.ensures (text-printed (text_of (record_of s.content.now)) s.printer.now w.answer w.bytes)

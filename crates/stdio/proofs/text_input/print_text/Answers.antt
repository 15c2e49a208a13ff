-- `print_text` meets its contract. Assumes nothing.
use mathlib.Core.Path.{refl, sym, ◌∙◌}
use borrow.Author.Rules.{rules}
use Rattle.text.specs.Text.{read_text}
use Rattle.text_writer.proofs.Placing.{placed-inside, start-enough}
use Rattle.text_report.specs.Report.{printed}
use Rattle.text_report.proofs.Size.{printed-size}
use Rattle.stdio.proofs.text_input.Buffers.{placed-there}
use Rattle.stdio.proofs.text_input.print_text.Goals as goal

pub unwrap-requires : goal.unwrap-requires
unwrap-requires c =
    let text = c.args.text.now in
    rw (c.print_text.ensures.answer, start-enough (printed (read_text text)) c.args.out.now 16384 (printed-size text) (search rules)) refl

pub returns : goal.returns
returns c =
    let e = sym c.unwrap.ensures ∙ c.print_text.ensures.answer in
    let p = printed (read_text c.args.text.now) in
    (placed-inside p c.args.out.now 0 e c.print_text.ensures.bytes, placed-there p c.args.out.now c.unwrap.result e c.print_text.ensures.bytes)

-- `print_unity` meets its contract. Assumes nothing.
use mathlib.Core.Path.{ap, ◌∙◌}
use Prim.Native.Nat.{ℕ}
use mathlib.Core.List.{List}
use Rattle.text_forms.specs.Spelling.{bytes}
use Rattle.text_writer.specs.Placed.{placed, placing}
use Rattle.text_report.specs.Report.{refusal_line}
use Rattle.unity_text.specs.Text.{unity_form}
use Rattle.unity_text.proofs.Printing.{print-refused, print-accepted}
use Rattle.unity_text.proofs.print_unity.Goals as goal

pub returns-in-Err : goal.returns-in-Err
returns-in-Err c =
    let out = c.args.out.now in
    let f = c.in-Err.fault in
    let e = ap (λ (n : ℕ). refusal_line n f.row) c.number.ensures ∙ print-refused c.args.text.now f c.in-Err.ensures in
    record {
      answer = c.refusal_line.ensures.answer ∙ ap (λ (l : List ℕ). placing l 0 out) e;
      bytes = c.refusal_line.ensures.bytes ∙ ap (λ (l : List ℕ). placed l 0 out) e;
    }

pub returns : goal.returns
unfolding unity_form bytes
returns c =
    let out = c.args.out.now in
    let e = print-accepted c.args.text.now c.in-Ok.unity c.in-Ok.ensures in
    record {
      answer = c.place_form.ensures.answer ∙ ap (λ (l : List ℕ). placing l 0 out) e;
      bytes = c.place_form.ensures.bytes ∙ ap (λ (l : List ℕ). placed l 0 out) e;
    }

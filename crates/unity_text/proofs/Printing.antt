-- What is printed of a text, by what it comes to. Assumes nothing.
use mathlib.Core.Path.{◌≡◌}
use mathlib.Core.List.{List}
use Prim.Native.Nat.{ℕ}
use borrow.Author.Tests.{ne_eqb}
use Rattle.std.specs.Prelude.{Ok, Err}
use Rattle.refusals.specs.Numbers.{number}
use Rattle.refusals.proofs.Numbers.{number-positive}
use Rattle.text_forms.specs.Form.{fill}
use Rattle.text_report.specs.Report.{refusal_line}
use Rattle.unity_table.specs.declared.Unity.{Unity}
use Rattle.unity_table.specs.declared.RowFault.{RowFault}
use Rattle.unity_table.specs.Unity.{answer_told}
use Rattle.unity_text.specs.Text.{unity_form, text_unity, unity_numbers, printed_unity}

module _ (text : List ℕ) where
  pub print-refused : (f : RowFault) → answer_told (Err f) ≡ text_unity text → refusal_line (number f.refusal) f.row ≡ printed_unity (text_unity text)
  unfolding printed_unity
  print-refused f e = rw (← e, ne_eqb (number f.refusal) 0 (number-positive f.refusal))

  pub print-accepted : (u : Unity) → answer_told (Ok u) ≡ text_unity text → fill unity_form (unity_numbers (answer_told (Ok u))) ≡ printed_unity (text_unity text)
  unfolding printed_unity
  print-accepted u e = rw (← e)

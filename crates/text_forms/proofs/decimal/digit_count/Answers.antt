-- `decimal::digit_count` meets its contract. Assumes nothing.
use Rattle.std.proofs.Common.{◌∙◌}
use Rattle.text_forms.proofs.decimal.Laws.{run-length}
use Rattle.text_forms.proofs.decimal.digit_count.Goals as goal

pub returns : goal.returns
returns c = c.unwrap_or.ensures ∙ run-length c.args.bytes.now c.digits_end.ensures

use Rattle.std.proofs.Common.{◌≡◌, take, min}
use Rattle.text_forms.specs.decimal.Decimal.{digit_run, value_from}
use Rattle.text_forms.proofs.decimal.digits_value.Given as goal

abbrev pub invariant-loop-digit : goal.invariant-loop-digit
invariant-loop-digit l = (digit_run l.digits ≡ l.digits) × (l.value ≡ min (value_from 0 (take l.digit-index l.digits)) 4294967296)

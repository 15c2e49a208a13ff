-- `decimal::digits_value` meets its contract. Assumes nothing.
use Rattle.std.proofs.Common.{ap, ◌∙◌, List, ℕ, ◌+◌, ◌*◌, min}
use Rattle.text_forms.specs.decimal.Decimal.{value_from}
use Rattle.text_forms.proofs.decimal.Laws.{all-digits, value_none, capped}
use lib.Seq.{take_all}
use Rattle.text_forms.proofs.decimal.digits_value.Goals as goal

pub loop-digit-init : goal.loop-digit-init
loop-digit-init c = (c.requires, value_none c.args.digits.now _)

pub overflow_sub-digit : goal.overflow_sub-digit
overflow_sub-digit c = (all-digits c.args.digits.now c.requires c.loop-digit.digit-index c.loop-digit-test.true).0

pub loop-digit-preserved : goal.loop-digit-preserved
loop-digit-preserved c = (
  c.requires,
  c.min-value.ensures
      ∙ ap (λ (n : ℕ). min (c.loop-digit.value * 10 + n) 4294967296) c.from.ensures
      ∙ capped 4294967296 c.args.digits.now c.loop-digit.digit-index c.loop-digit.value c.loop-digit-test.true c.loop-digit.invariant.1,
)

pub returns : goal.returns
returns c = c.loop-digit.invariant.1 ∙ ap (λ (ds : List ℕ). min (value_from 0 ds) 4294967296) (take_all c.loop-digit.digit-index c.args.digits.now c.loop-digit-test.false)

-- `decimal::number_length` meets its contract. Assumes nothing.
use native.Mathlib.Omega.{arith}
use mathlib.Core.Path.{refl, sym}
use Rattle.text_forms.proofs.decimal.Laws.{decimal-small, decimal-power}
use Rattle.text_forms.proofs.decimal.number_length.Goals as goal

pub returns-in-Some : goal.returns-in-Some
returns-in-Some c = let s = c.in-Some in sym (decimal-power s.power c.args.n s.ensures.power_le s.ensures.next_power_gt)

pub returns-in-None : goal.returns-in-None
returns-in-None c = rw (c.in-None.ensures.none, decimal-small 0 (omega arith)) refl

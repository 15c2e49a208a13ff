-- `decimal::write_number` meets its contract. Assumes nothing.
use Rattle.text_forms.proofs.decimal.Laws.{writing-next}
use Rattle.text_forms.proofs.decimal.write_number.Goals as goal

pub loop-i-preserved : goal.loop-i-preserved
loop-i-preserved c = let s = c.args in writing-next s.n s.out.now c.loop-i.invariant c.loop-i-test.true

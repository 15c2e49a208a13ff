-- `store` meets its contract. Assumes nothing.
use mathlib.Core.Path.{sym}
use native.Mathlib.Omega.{arith}
use lib.Seq.{set_out}
use Rattle.text_forms.proofs.store.Goals as goal

pub returns-else-k-lt-NUMBERS : goal.returns-else-k-lt-NUMBERS
returns-else-k-lt-NUMBERS c = sym (set_out c.args.numbers.now c.args.k c.args.n (omega (arith, c.if-k-lt-NUMBERS.false, c.requires)))

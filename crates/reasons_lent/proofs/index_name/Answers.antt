-- `index_name` meets its contract. Assumes nothing.
use mathlib.Core.Path.{refl}
use Rattle.reasons_lent.proofs.Naming.{indexed-name, indexed-past}
use Rattle.reasons_lent.proofs.index_name.Goals as goal

pub returns-then-index-eq0 : goal.returns-then-index-eq0
returns-then-index-eq0 c = rw c.if-index-eq0.true refl

pub returns-in-Some : goal.returns-in-Some
returns-in-Some c = let e = c.in-Some.ensures.lookup in indexed-name c.args.edits.now c.args.index c.in-Some.edit.now c.if-index-eq0.false e.3.0 e.1

pub returns-in-None : goal.returns-in-None
returns-in-None c = indexed-past c.args.edits.now c.args.index c.if-index-eq0.false c.in-None.ensures.lookup.3

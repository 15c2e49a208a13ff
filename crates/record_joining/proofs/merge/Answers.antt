-- `merge` meets its contract. Assumes nothing.
use mathlib.Core.Bool.{false}
use Rattle.record_tables.specs.Table.{names_of}
use Rattle.record_joining.proofs.Answers.{union-is}
use Rattle.record_joining.proofs.merge.Goals as goal

pub returns : goal.returns
returns c = λ R e k.
    let s = c.args in
    union-is R (names_of s.lent.edits.now) false s.lent.edits.now s.lent.constraints.now k (c.in_ok-fault.ensures R e k) e c.decode-joining.ensures c.union.ensures

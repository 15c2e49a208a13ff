-- `add_edit` meets its contract. Assumes nothing.
use mathlib.Core.List.{[], ◌∷◌}
use mathlib.Core.Bool.{true}
use Rattle.record.specs.Record.{written}
use Rattle.record_joining.proofs.Answers.{union-is}
use Rattle.record_joining.proofs.add_edit.Goals as goal

pub returns : goal.returns
returns c = λ R e k.
    let s = c.args in
    union-is R (written R) true (s.row ∷ []) [] k (c.in_ok-edit_add_fault.ensures R e k) e c.decode-joining.ensures c.union.ensures

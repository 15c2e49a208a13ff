-- `read_constraint` meets its contract. Assumes nothing.
use Rattle.std.proofs.Common.{[], ◌∷◌, ap, ◌∙◌, Err, arith}
use Rattle.std.proofs.lemmas.Result.{err_from_is_err_and}
use Rattle.text_lines.proofs.Says.{constraint-slots, constraint-fair, there, none-read, not-said, word-large, word-refused, number-large, words-said}
use Rattle.text_lines.specs.Line.{constraint_shape}
use Rattle.text_lines.proofs.read_constraint.Goals as goal

pub returns-in_err-numbers : goal.returns-in_err-numbers
returns-in_err-numbers g c =
    let p = err_from_is_err_and c.from_residual.result c.from_residual.ensures.1 in
    let q = none-read c.read_form_in-said.result c.ok_or.ensures.value c.in_err-numbers.was in
    rw (p.1, p.2, ← q.1) (not-said _ constraint_shape c.args.bytes.now (rw (c.read_form_in-said.ensures, c.constraint_form.ensures) at q.0))

pub returns-in_err-left : goal.returns-in_err-left
returns-in_err-left g c =
    let e = rw (c.read_form_in-said.ensures, c.constraint_form.ensures) at (there c.read_form_in-said.result c.ok_or.ensures.value c.in_ok-numbers.was) in
    let p = err_from_is_err_and c.from_residual-in_err-left.result c.from_residual-in_err-left.ensures.1 in
    rw (p.1, p.2) (ap Err (word-refused _ c.in_err-left.ensures) ∙ number-large _ constraint_shape c.args.bytes.now e 0 (omega arith) (word-large _ c.in_err-left.ensures))

pub returns-in_err-rule : goal.returns-in_err-rule
returns-in_err-rule g c =
    let e = rw (c.read_form_in-said.ensures, c.constraint_form.ensures) at (there c.read_form_in-said.result c.ok_or.ensures.value c.in_ok-numbers.was) in
    let p = err_from_is_err_and c.from_residual-in_err-rule.result c.from_residual-in_err-rule.ensures.1 in
    rw (p.1, p.2) (ap Err (word-refused _ c.in_err-rule.ensures) ∙ number-large _ constraint_shape c.args.bytes.now e 1 (omega arith) (word-large _ c.in_err-rule.ensures))

pub returns-in_err-right : goal.returns-in_err-right
returns-in_err-right g c =
    let e = rw (c.read_form_in-said.ensures, c.constraint_form.ensures) at (there c.read_form_in-said.result c.ok_or.ensures.value c.in_ok-numbers.was) in
    let p = err_from_is_err_and c.from_residual-in_err-right.result c.from_residual-in_err-right.ensures.1 in
    rw (p.1, p.2) (ap Err (word-refused _ c.in_err-right.ensures) ∙ number-large _ constraint_shape c.args.bytes.now e 2 (omega arith) (word-large _ c.in_err-right.ensures))

pub returns : goal.returns
returns g c =
    let e = rw (c.read_form_in-said.ensures, c.constraint_form.ensures) at (there c.read_form_in-said.result c.ok_or.ensures.value c.in_ok-numbers.was) in
    words-said _ constraint_shape c.args.bytes.now e constraint-fair (_ ∷ _ ∷ _ ∷ []) (omega (arith, constraint-slots)) (omega arith) (c.in_ok-left.ensures, (c.in_ok-rule.ensures, (c.in_ok-right.ensures, tt)))

-- `read_edit_as` meets its contract. Assumes nothing.
use Rattle.std.proofs.Common.{[], ◌∷◌, ap, ◌∙◌, Err, arith}
use Rattle.std.proofs.lemmas.Result.{err_from_is_err_and}
use Rattle.text_lines.proofs.Says.{edit-slots, edit-fair, there, none-read, not-said, word-large, word-refused, number-large, words-said}
use Rattle.text_lines.specs.Line.{edit_shape}
use Rattle.text_lines.proofs.read_edit_as.Goals as goal

pub returns-in_err-numbers : goal.returns-in_err-numbers
returns-in_err-numbers g c =
    let p = err_from_is_err_and c.from_residual.result c.from_residual.ensures.1 in
    let q = none-read c.read_form_in-said.result c.ok_or.ensures.value c.in_err-numbers.was in
    rw (p.1, p.2, ← q.1) (not-said _ (edit_shape c.args.kind) c.args.bytes.now (rw (c.read_form_in-said.ensures, c.edit_form.ensures) at q.0))

pub returns-in_err-name : goal.returns-in_err-name
returns-in_err-name g c =
    let e = rw (c.read_form_in-said.ensures, c.edit_form.ensures) at (there c.read_form_in-said.result c.ok_or.ensures.value c.in_ok-numbers.was) in
    let p = err_from_is_err_and c.from_residual-in_err-name.result c.from_residual-in_err-name.ensures.1 in
    rw (p.1, p.2) (ap Err (word-refused _ c.in_err-name.ensures) ∙ number-large _ (edit_shape c.args.kind) c.args.bytes.now e 0 (omega arith) (word-large _ c.in_err-name.ensures))

pub returns-in_err-place : goal.returns-in_err-place
returns-in_err-place g c =
    let e = rw (c.read_form_in-said.ensures, c.edit_form.ensures) at (there c.read_form_in-said.result c.ok_or.ensures.value c.in_ok-numbers.was) in
    let p = err_from_is_err_and c.from_residual-in_err-place.result c.from_residual-in_err-place.ensures.1 in
    rw (p.1, p.2) (ap Err (word-refused _ c.in_err-place.ensures) ∙ number-large _ (edit_shape c.args.kind) c.args.bytes.now e 1 (omega arith) (word-large _ c.in_err-place.ensures))

pub returns-in_err-field : goal.returns-in_err-field
returns-in_err-field g c =
    let e = rw (c.read_form_in-said.ensures, c.edit_form.ensures) at (there c.read_form_in-said.result c.ok_or.ensures.value c.in_ok-numbers.was) in
    let p = err_from_is_err_and c.from_residual-in_err-field.result c.from_residual-in_err-field.ensures.1 in
    rw (p.1, p.2) (ap Err (word-refused _ c.in_err-field.ensures) ∙ number-large _ (edit_shape c.args.kind) c.args.bytes.now e 2 (omega arith) (word-large _ c.in_err-field.ensures))

pub returns-in_err-value : goal.returns-in_err-value
returns-in_err-value g c =
    let e = rw (c.read_form_in-said.ensures, c.edit_form.ensures) at (there c.read_form_in-said.result c.ok_or.ensures.value c.in_ok-numbers.was) in
    let p = err_from_is_err_and c.from_residual-in_err-value.result c.from_residual-in_err-value.ensures.1 in
    rw (p.1, p.2) (ap Err (word-refused _ c.in_err-value.ensures) ∙ number-large _ (edit_shape c.args.kind) c.args.bytes.now e 3 (omega arith) (word-large _ c.in_err-value.ensures))

pub returns : goal.returns
returns g c =
    let e = rw (c.read_form_in-said.ensures, c.edit_form.ensures) at (there c.read_form_in-said.result c.ok_or.ensures.value c.in_ok-numbers.was) in
    words-said _ (edit_shape c.args.kind) c.args.bytes.now e (edit-fair c.args.kind) (_ ∷ _ ∷ _ ∷ _ ∷ []) (omega (arith, edit-slots c.args.kind)) (omega arith) (c.in_ok-name.ensures, (c.in_ok-place.ensures, (c.in_ok-field.ensures, (c.in_ok-value.ensures, tt))))

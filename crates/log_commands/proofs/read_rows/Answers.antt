-- `read_rows` meets its contract. Assumes nothing.
use Rattle.std.proofs.Common.{refl, sym, ◌∙◌, rules}
use Rattle.std.proofs.lemmas.Result.{err_from_is_err_and}
use Rattle.text_lines.proofs.Signs.{number-near}
use Rattle.log_commands.proofs.Arms.{computed, number_by_letter, rows-letter}
use Rattle.log_commands.proofs.read_rows.Goals as goal

pub overflow_add-number : goal.overflow_add-number
overflow_add-number c = let n = number-near c.args.bytes.now 5 c.requires in search rules

pub returns-in_err-read_number-in-110 : goal.returns-in_err-read_number-in-110
unfolding computed
returns-in_err-read_number-in-110 c =
    let p = err_from_is_err_and c.from_residual.result c.from_residual.ensures.1 in
    rw (p.1, p.2) (number_by_letter c.args.bytes.now c.in_err-read_number-in-110.ensures (sym (rows-letter c.args.bytes.now c.requires c.byte_at-letter.ensures) ∙ c.in-110.is) refl refl refl)

pub returns-in_ok-read_number-in-110 : goal.returns-in_ok-read_number-in-110
unfolding computed
returns-in_ok-read_number-in-110 c = number_by_letter c.args.bytes.now c.in_ok-read_number-in-110.ensures (sym (rows-letter c.args.bytes.now c.requires c.byte_at-letter.ensures) ∙ c.in-110.is) refl refl refl

pub returns-in_err-read_number-in-98 : goal.returns-in_err-read_number-in-98
unfolding computed
returns-in_err-read_number-in-98 c =
    let p = err_from_is_err_and c.from_residual-in_err-read_number-in-98.result c.from_residual-in_err-read_number-in-98.ensures.1 in
    rw (p.1, p.2) (number_by_letter c.args.bytes.now c.in_err-read_number-in-98.ensures (sym (rows-letter c.args.bytes.now c.requires c.byte_at-letter.ensures) ∙ c.in-98.is) refl refl refl)

pub returns-in_ok-read_number-in-98 : goal.returns-in_ok-read_number-in-98
unfolding computed
returns-in_ok-read_number-in-98 c = number_by_letter c.args.bytes.now c.in_ok-read_number-in-98.ensures (sym (rows-letter c.args.bytes.now c.requires c.byte_at-letter.ensures) ∙ c.in-98.is) refl refl refl

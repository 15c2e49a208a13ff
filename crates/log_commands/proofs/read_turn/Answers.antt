-- `read_turn` meets its contract. Assumes nothing.
use Rattle.std.proofs.Common.{refl, sym, ◌∙◌, rules}
use Rattle.std.proofs.lemmas.Result.{err_from_is_err_and}
use Rattle.log_commands.proofs.Numbers.{back-said, forward-said}
use Rattle.log_commands.proofs.Arms.{computed, number_by_letter, number_by_last}
use Rattle.log_commands.proofs.read_turn.Goals as goal

pub returns-in_err-read_number-in-45 : goal.returns-in_err-read_number-in-45
unfolding computed
returns-in_err-read_number-in-45 c =
    let p = err_from_is_err_and c.from_residual.result c.from_residual.ensures.1 in
    rw (p.1, p.2) (number_by_letter c.args.bytes.now c.in_err-read_number-in-45.ensures (sym c.byte_at-letter.ensures ∙ c.in-45.is) refl refl refl)

pub returns-in_ok-read_number-in-45 : goal.returns-in_ok-read_number-in-45
unfolding computed
returns-in_ok-read_number-in-45 c =
    c.turn_by.ensures ∙ back-said c.in_ok-read_number-in-45.field-0 (search rules) c.from.ensures ∙
    number_by_letter c.args.bytes.now c.in_ok-read_number-in-45.ensures (sym c.byte_at-letter.ensures ∙ c.in-45.is) refl refl refl

pub returns-in_err-read_number-in_default : goal.returns-in_err-read_number-in_default
unfolding computed
returns-in_err-read_number-in_default c =
    let p = err_from_is_err_and c.from_residual-in_err-read_number-in_default.result c.from_residual-in_err-read_number-in_default.ensures.1 in
    rw (p.1, p.2) (number_by_last c.args.bytes.now c.in_err-read_number-in_default.ensures c.byte_at-letter.ensures c.in_default.in_default-own.rest refl refl refl)

pub returns-in_ok-read_number-in_default : goal.returns-in_ok-read_number-in_default
unfolding computed
returns-in_ok-read_number-in_default c =
    c.turn_by-in_default.ensures ∙ forward-said c.in_ok-read_number-in_default.field-0 (search rules) c.from-in_default.ensures ∙
    number_by_last c.args.bytes.now c.in_ok-read_number-in_default.ensures c.byte_at-letter.ensures c.in_default.in_default-own.rest refl refl refl

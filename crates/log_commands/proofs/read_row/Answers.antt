-- `read_row` meets its contract. Assumes nothing.
use Rattle.std.proofs.Common.{refl}
use Rattle.std.proofs.lemmas.Result.{err_from_is_err_and}
use Rattle.log_commands.proofs.Arms.{computed, number_by_last}
use Rattle.log_commands.proofs.read_row.Goals as goal

pub returns-in_err-read_number-in_default : goal.returns-in_err-read_number-in_default
unfolding computed
returns-in_err-read_number-in_default c =
    let p = err_from_is_err_and c.from_residual.result c.from_residual.ensures.1 in
    rw (p.1, p.2) (number_by_last c.args.bytes.now c.in_err-read_number-in_default.ensures c.byte_at-letter.ensures c.in_default.in_default-own.rest refl refl refl)

pub returns-in_ok-read_number-in_default : goal.returns-in_ok-read_number-in_default
unfolding computed
returns-in_ok-read_number-in_default c = number_by_last c.args.bytes.now c.in_ok-read_number-in_default.ensures c.byte_at-letter.ensures c.in_default.in_default-own.rest refl refl refl

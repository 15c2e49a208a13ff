-- `read_roll` meets its contract. Assumes nothing.
use Rattle.std.proofs.Common.{refl}
use Rattle.std.proofs.lemmas.Result.{err_from_is_err_and}
use Rattle.log_commands.proofs.Arms.{computed, by_last}
use Rattle.log_commands.proofs.read_roll.Goals as goal

pub returns-in_err-words-in_default : goal.returns-in_err-words-in_default
unfolding computed
returns-in_err-words-in_default c =
    let p = err_from_is_err_and c.from_residual.result c.from_residual.ensures.1 in
    rw (p.1, p.2) (by_last c.args.bytes.now c.in_err-words-in_default.ensures c.byte_at-letter.ensures c.in_default.in_default-own.rest refl refl)

pub returns-in_ok-words-in_default : goal.returns-in_ok-words-in_default
unfolding computed
returns-in_ok-words-in_default c = by_last c.args.bytes.now c.in_ok-words-in_default.ensures c.byte_at-letter.ensures c.in_default.in_default-own.rest refl refl

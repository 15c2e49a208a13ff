-- `read_winner_or_why` meets its contract. Assumes nothing.
use Rattle.std.proofs.Common.{refl, sym, ◌∙◌}
use Rattle.std.proofs.lemmas.Result.{err_from_is_err_and}
use Rattle.log_commands.proofs.Arms.{computed, by_letter, number_by_letter}
use Rattle.log_commands.proofs.read_winner_or_why.Goals as goal

pub returns-in_err-read_number-in-105 : goal.returns-in_err-read_number-in-105
unfolding computed
returns-in_err-read_number-in-105 c =
    let p = err_from_is_err_and c.from_residual.result c.from_residual.ensures.1 in
    rw (p.1, p.2) (number_by_letter c.args.bytes.now c.in_err-read_number-in-105.ensures (sym c.byte_at-letter.ensures ∙ c.in-105.is) refl refl refl)

pub returns-in_ok-read_number-in-105 : goal.returns-in_ok-read_number-in-105
unfolding computed
returns-in_ok-read_number-in-105 c = number_by_letter c.args.bytes.now c.in_ok-read_number-in-105.ensures (sym c.byte_at-letter.ensures ∙ c.in-105.is) refl refl refl

pub returns-in_err-words-in-104 : goal.returns-in_err-words-in-104
unfolding computed
returns-in_err-words-in-104 c =
    let p = err_from_is_err_and c.from_residual-in_err-words-in-104.result c.from_residual-in_err-words-in-104.ensures.1 in
    rw (p.1, p.2) (by_letter c.args.bytes.now c.in_err-words-in-104.ensures (sym c.byte_at-letter.ensures ∙ c.in-104.is) refl refl)

pub returns-in_ok-words-in-104 : goal.returns-in_ok-words-in-104
unfolding computed
returns-in_ok-words-in-104 c = by_letter c.args.bytes.now c.in_ok-words-in-104.ensures (sym c.byte_at-letter.ensures ∙ c.in-104.is) refl refl

-- `read_turn_test_or_tally` meets its contract. Assumes nothing.
use Rattle.std.proofs.Common.{refl, sym, ◌∙◌}
use Rattle.std.proofs.lemmas.Result.{err_from_is_err_and}
use Rattle.log_commands.proofs.Arms.{computed, number_by_letter}
use Rattle.log_commands.proofs.read_turn_test_or_tally.Goals as goal

pub returns-in_err-read_number-in-101 : goal.returns-in_err-read_number-in-101
unfolding computed
returns-in_err-read_number-in-101 c =
    let p = err_from_is_err_and c.from_residual.result c.from_residual.ensures.1 in
    rw (p.1, p.2) (number_by_letter c.args.bytes.now c.in_err-read_number-in-101.ensures (sym c.byte_at-letter.ensures ∙ c.in-101.is) refl refl refl)

pub returns-in_ok-read_number-in-101 : goal.returns-in_ok-read_number-in-101
unfolding computed
returns-in_ok-read_number-in-101 c = number_by_letter c.args.bytes.now c.in_ok-read_number-in-101.ensures (sym c.byte_at-letter.ensures ∙ c.in-101.is) refl refl refl

pub returns-in_err-read_number-in-97 : goal.returns-in_err-read_number-in-97
unfolding computed
returns-in_err-read_number-in-97 c =
    let p = err_from_is_err_and c.from_residual-in_err-read_number-in-97.result c.from_residual-in_err-read_number-in-97.ensures.1 in
    rw (p.1, p.2) (number_by_letter c.args.bytes.now c.in_err-read_number-in-97.ensures (sym c.byte_at-letter.ensures ∙ c.in-97.is) refl refl refl)

pub returns-in_ok-read_number-in-97 : goal.returns-in_ok-read_number-in-97
unfolding computed
returns-in_ok-read_number-in-97 c = number_by_letter c.args.bytes.now c.in_ok-read_number-in-97.ensures (sym c.byte_at-letter.ensures ∙ c.in-97.is) refl refl refl

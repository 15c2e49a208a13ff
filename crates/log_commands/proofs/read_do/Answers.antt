-- `read_do` meets its contract. Assumes nothing.
use Rattle.std.proofs.Common.{refl, sym, ◌∙◌}
use Rattle.std.proofs.lemmas.Result.{err_from_is_err_and}
use Rattle.log_commands.proofs.Arms.{computed, by_letter, number_by_letter}
use Rattle.log_commands.proofs.read_do.Goals as goal

pub returns-in_err-read_number-in-109 : goal.returns-in_err-read_number-in-109
unfolding computed
returns-in_err-read_number-in-109 c =
    let p = err_from_is_err_and c.from_residual.result c.from_residual.ensures.1 in
    rw (p.1, p.2) (number_by_letter c.args.bytes.now c.in_err-read_number-in-109.ensures (sym c.byte_at-letter.ensures ∙ c.in-109.is) refl refl refl)

pub returns-in_ok-read_number-in-109 : goal.returns-in_ok-read_number-in-109
unfolding computed
returns-in_ok-read_number-in-109 c = number_by_letter c.args.bytes.now c.in_ok-read_number-in-109.ensures (sym c.byte_at-letter.ensures ∙ c.in-109.is) refl refl refl

pub returns-in_err-read_number-in-104 : goal.returns-in_err-read_number-in-104
unfolding computed
returns-in_err-read_number-in-104 c =
    let p = err_from_is_err_and c.from_residual-in_err-read_number-in-104.result c.from_residual-in_err-read_number-in-104.ensures.1 in
    rw (p.1, p.2) (number_by_letter c.args.bytes.now c.in_err-read_number-in-104.ensures (sym c.byte_at-letter.ensures ∙ c.in-104.is) refl refl refl)

pub returns-in_ok-read_number-in-104 : goal.returns-in_ok-read_number-in-104
unfolding computed
returns-in_ok-read_number-in-104 c = number_by_letter c.args.bytes.now c.in_ok-read_number-in-104.ensures (sym c.byte_at-letter.ensures ∙ c.in-104.is) refl refl refl

pub returns-in_err-read_number-in-97 : goal.returns-in_err-read_number-in-97
unfolding computed
returns-in_err-read_number-in-97 c =
    let p = err_from_is_err_and c.from_residual-in_err-read_number-in-97.result c.from_residual-in_err-read_number-in-97.ensures.1 in
    rw (p.1, p.2) (number_by_letter c.args.bytes.now c.in_err-read_number-in-97.ensures (sym c.byte_at-letter.ensures ∙ c.in-97.is) refl refl refl)

pub returns-in_ok-read_number-in-97 : goal.returns-in_ok-read_number-in-97
unfolding computed
returns-in_ok-read_number-in-97 c = number_by_letter c.args.bytes.now c.in_ok-read_number-in-97.ensures (sym c.byte_at-letter.ensures ∙ c.in-97.is) refl refl refl

pub returns-in_err-read_number-in-101 : goal.returns-in_err-read_number-in-101
unfolding computed
returns-in_err-read_number-in-101 c =
    let p = err_from_is_err_and c.from_residual-in_err-read_number-in-101.result c.from_residual-in_err-read_number-in-101.ensures.1 in
    rw (p.1, p.2) (number_by_letter c.args.bytes.now c.in_err-read_number-in-101.ensures (sym c.byte_at-letter.ensures ∙ c.in-101.is) refl refl refl)

pub returns-in_ok-read_number-in-101 : goal.returns-in_ok-read_number-in-101
unfolding computed
returns-in_ok-read_number-in-101 c = number_by_letter c.args.bytes.now c.in_ok-read_number-in-101.ensures (sym c.byte_at-letter.ensures ∙ c.in-101.is) refl refl refl

pub returns-in_err-words-in-98 : goal.returns-in_err-words-in-98
unfolding computed
returns-in_err-words-in-98 c =
    let p = err_from_is_err_and c.from_residual-in_err-words-in-98.result c.from_residual-in_err-words-in-98.ensures.1 in
    rw (p.1, p.2) (by_letter c.args.bytes.now c.in_err-words-in-98.ensures (sym c.byte_at-letter.ensures ∙ c.in-98.is) refl refl)

pub returns-in_ok-words-in-98 : goal.returns-in_ok-words-in-98
unfolding computed
returns-in_ok-words-in-98 c = by_letter c.args.bytes.now c.in_ok-words-in-98.ensures (sym c.byte_at-letter.ensures ∙ c.in-98.is) refl refl

pub returns-in_err-words-in-112 : goal.returns-in_err-words-in-112
unfolding computed
returns-in_err-words-in-112 c =
    let p = err_from_is_err_and c.from_residual-in_err-words-in-112.result c.from_residual-in_err-words-in-112.ensures.1 in
    rw (p.1, p.2) (by_letter c.args.bytes.now c.in_err-words-in-112.ensures (sym c.byte_at-letter.ensures ∙ c.in-112.is) refl refl)

pub returns-in_ok-words-in-112 : goal.returns-in_ok-words-in-112
unfolding computed
returns-in_ok-words-in-112 c = by_letter c.args.bytes.now c.in_ok-words-in-112.ensures (sym c.byte_at-letter.ensures ∙ c.in-112.is) refl refl

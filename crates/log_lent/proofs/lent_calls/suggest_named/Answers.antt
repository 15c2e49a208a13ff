-- `lent_calls::suggest_named` meets its contract. Assumes nothing.
use Rattle.log_lent.proofs.lent_calls.Given.{told-given}
use Rattle.log_lent.proofs.lent_calls.Named.{first-unnamed, second-unnamed, no-case, first-unknown, second-unknown, both-named}
use Rattle.log_lent.proofs.lent_calls.suggest_named.Goals as goal

pub returns-in_err-name : goal.returns-in_err-name
returns-in_err-name c = λ R q v. told-given _ _ _ c.from_residual.ensures (first-unnamed R _ c.in_err-name.ensures)

pub returns-in_err-other : goal.returns-in_err-other
returns-in_err-other c = λ R q v. told-given _ _ _ c.from_residual-in_err-other.ensures (second-unnamed R _ c.in_ok-name.ensures c.in_err-other.ensures)

pub returns-then-asked-gt1 : goal.returns-then-asked-gt1
returns-then-asked-gt1 c = λ R q v. (no-case R _ c.in_ok-name.ensures c.in_ok-other.ensures c.if-asked-gt1.true, tt)

pub returns-in_err-first : goal.returns-in_err-first
returns-in_err-first c =
    λ R q v.
    told-given _ _ _ c.from_residual-in_err-first.ensures
    (first-unknown R _ c.in_ok-name.ensures c.in_ok-other.ensures c.if-asked-gt1.false (c.row_named.ensures R q v) c.in_err-first.ensures.value)

pub returns-in_err-second : goal.returns-in_err-second
returns-in_err-second c =
    λ R q v.
    told-given _ _ _ c.from_residual-in_err-second.ensures
    (second-unknown R _ c.in_ok-name.ensures c.in_ok-other.ensures c.if-asked-gt1.false (c.row_named.ensures R q v) c.in_ok-first.ensures.ok_part (c.row_named-2.ensures R q v)
    c.in_err-second.ensures.value)

pub returns : goal.returns
returns c =
    λ R q v.
    both-named R _ c.in_ok-name.ensures c.in_ok-other.ensures c.if-asked-gt1.false (c.row_named.ensures R q v) c.in_ok-first.ensures.ok_part (c.row_named-2.ensures R q v)
    c.in_ok-second.ensures.ok_part _ c.suggest.ensures

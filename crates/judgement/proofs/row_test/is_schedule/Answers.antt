-- `row_test::is_schedule` meets its contract. Assumes nothing.
use mathlib.Core.Path.{sym, ◌∙◌}
use Rattle.judgement.proofs.row_test.Fitting.{init-starts, start-not, seats-not, seats-then}
use Rattle.judgement.proofs.row_test.is_schedule.Goals as goal

pub returns-then-not-starts_with : goal.returns-then-not-starts_with
returns-then-not-starts_with c R e f =
    let row = c.args.row.now in start-not R row (sym (init-starts row) ∙ sym c.starts_with.ensures.value ∙ c.if-not-starts_with.true)

pub returns-in-Some : goal.returns-in-Some
returns-in-Some c R e f =
    let row = c.args.row.now in
    let t = c.index_table-table.ensures R e f in
    let k = c.in-Some.ensures R f t in
    seats-then R row (sym (init-starts row) ∙ sym c.starts_with.ensures.value ∙ c.if-not-starts_with.false) _ k.0 (c.all_fit.ensures R row e f t k.1)

pub returns-in-None : goal.returns-in-None
returns-in-None c R e f =
    let row = c.args.row.now in
    seats-not R row (sym (init-starts row) ∙ sym c.starts_with.ensures.value ∙ c.if-not-starts_with.false) (c.in-None.ensures R f (c.index_table-table.ensures R e f)).0

-- `lent_tables::LentTables::add` meets its contract. Assumes nothing.
use mathlib.Core.Path.{◌≡◌, sym, ◌∙◌}
use borrow.Author.Rules.{rules}
use borrow.Author.Tests.{leb-true, leb-false}
use Rattle.refusals.specs.Numbers.{number_of}
use Rattle.log_lent.proofs.Listed.{listed-length}
use Rattle.log_lent.proofs.lent_tables.Rows.{kept-rows, no_record, no-lent-place, row-placed}
use Rattle.log_lent.proofs.lent_tables.LentTables.add.Goals as goal

pub returns-in_err-table : goal.returns-in_err-table
returns-in_err-table g c =
    let e = c.in_err-table.ensures in
    let n : number_of c.from_residual.result ≡ 2 = search rules in
    λ tables T. rw n (no_record T _ e.1 _)

pub returns-then-is_full : goal.returns-then-is_full
returns-then-is_full g c = λ tables T. let q = c.in_ok-table.ensures in no-lent-place T q.0 q.1 _ _ (leb-true _ _ (sym c.is_full.ensures ∙ c.if-is_full.true))

pub returns : goal.returns
returns g c = λ tables T.
    let q = c.in_ok-table.ensures in
    let r = leb-false _ _ (sym c.is_full.ensures ∙ c.if-is_full.false) in
    let s = listed-length (kept-rows T q.0 q.1 c.index-self-table.result) in
    row-placed T q.0 q.1 _ _ r (c.push.ensures _ (kept-rows T q.0 q.1 _) (rw s r))

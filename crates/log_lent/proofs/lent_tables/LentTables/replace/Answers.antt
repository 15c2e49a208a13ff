-- `lent_tables::LentTables::replace` meets its contract. Assumes nothing.
use mathlib.Core.Path.{◌≡◌}
use borrow.Author.Rules.{rules}
use Rattle.refusals.specs.Numbers.{number_of}
use Rattle.log_lent.proofs.lent_tables.Rows.{kept-rows, replaced, not-replaced}
use Rattle.log_lent.proofs.lent_tables.LentTables.replace.Goals as goal

pub returns-in_err-table : goal.returns-in_err-table
returns-in_err-table g c =
    let e = c.in_err-table.ensures in
    let n : number_of c.from_residual.result ≡ 2 = search rules in
    λ tables T few. rw n (not-replaced T _ e.1 _)

pub returns : goal.returns
returns g c = λ tables T few. let q = c.in_ok-table.ensures in replaced T q.0 q.1 (c.refill.ensures _ (kept-rows T q.0 q.1 _) few)

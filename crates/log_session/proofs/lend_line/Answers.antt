-- `lend_line` meets its contract. Assumes nothing.
use mathlib.Core.Path.{refl, ◌∙◌}
use native.Mathlib.Omega.{arith}
use Rattle.record_tables.specs.Table.{empty_tables}
use Rattle.record_tables.proofs.Tables.{empty-stored}
use Rattle.log_session.specs.Desk.{ledger_of}
use Rattle.log_session.specs.Lends.{lend_effect}
use Rattle.log_session.proofs.Cases.{ledger-valid, bench-stored}
use Rattle.log_session.proofs.calls.Telling.{lend-held}
use Rattle.log_session.proofs.lend_line.Goals as goal

pub returns-in-EditRow-clause-told : goal.returns-in-EditRow-clause-told
unfolding lend_effect
returns-in-EditRow-clause-told c = λ D H. lend-held D c.in-EditRow.is H.benched (rw c.into.ensures at (c.lend_edit.ensures D.lent H.kept))

pub returns-in-ConstraintRow-clause-told : goal.returns-in-ConstraintRow-clause-told
unfolding lend_effect
returns-in-ConstraintRow-clause-told c = λ D H. lend-held D c.in-ConstraintRow.is H.benched (rw c.into-in-ConstraintRow.ensures at (c.lend_constraint.ensures D.lent H.kept))

pub returns-in-NoRows-clause-told : goal.returns-in-NoRows-clause-told
unfolding lend_effect
returns-in-NoRows-clause-told c = λ D H. lend-held D c.in-NoRows.is H.benched (c.lend_record.ensures D.lent empty_tables H.kept (c.empty.ensures ∙ empty-stored) (omega arith) (omega arith))

pub returns-in-BenchRows-clause-told : goal.returns-in-BenchRows-clause-told
unfolding lend_effect
returns-in-BenchRows-clause-told c =
    λ D H.
    let v = (ledger-valid D).checked in
    lend-held D c.in-BenchRows.is H.benched
    (c.lend_record-in-BenchRows.ensures D.lent (ledger_of D).multilog H.kept (bench-stored D H.benched) v.editplaces v.constraintplaces)

pub returns-in-RollRow-clause-told : goal.returns-in-RollRow-clause-told
unfolding lend_effect
returns-in-RollRow-clause-told c = λ D H. lend-held D c.in-RollRow.is H.benched (c.lend_seat.ensures D.lent H.kept)

pub returns-in-NoRoll-clause-told : goal.returns-in-NoRoll-clause-told
unfolding lend_effect
returns-in-NoRoll-clause-told c = λ D H. lend-held D c.in-NoRoll.is H.benched (refl, c.lend_no_roll.ensures D.lent H.kept)

pub returns-in-RowName-clause-told : goal.returns-in-RowName-clause-told
unfolding lend_effect
returns-in-RowName-clause-told c = λ D H. lend-held D c.in-RowName.is H.benched (c.lend_name.ensures D.lent H.kept)

pub returns-in-NoRow-clause-told : goal.returns-in-NoRow-clause-told
unfolding lend_effect
returns-in-NoRow-clause-told c = λ D H. lend-held D c.in-NoRow.is H.benched (refl, c.lend_no_row.ensures D.lent H.kept)

-- `fault` meets its contract. Assumes nothing.
use mathlib.Core.Path.{◌≡◌, refl, sym}
use mathlib.Core.Bool.{false}
use lib.Seq.{take_all}
use Rattle.std.proofs.lemmas.Result.{err_from_is_err_and}
use Rattle.record_rows.proofs.grounds.Grounds.{given-none}
use Rattle.voting.specs.declared.RollRow.{RollRow}
use Rattle.voting_roll.specs.Roll.{roll_faulty}
use Rattle.voting_roll.proofs.Rolls.{no-rows-faultless, row-passed, row-refused}
use Rattle.voting_roll.proofs.fault.Goals as goal

abbrev no_row : RollRow
no_row = record { bench = 0; weight = 0 }

pub loop-i-init : goal.loop-i-init
loop-i-init c = no-rows-faultless

pub returns-in_err-row_fault : goal.returns-in_err-row_fault
returns-in_err-row_fault c =
    let p = err_from_is_err_and c.from_residual.result c.from_residual.ensures.1 in
    rw (p.1, p.2) (row-refused c.args.rows.now c.loop-i.i c.loop-i-test.true c.loop-i.invariant no_row c.in_err-row_fault.field-0.0 c.in_err-row_fault.ensures)

pub loop-i-preserved : goal.loop-i-preserved
loop-i-preserved c = row-passed c.args.rows.now c.loop-i.i c.loop-i-test.true c.loop-i.invariant no_row (given-none 13 _ (sym c.in_ok-row_fault.ensures))

pub returns : goal.returns
returns c = let f : roll_faulty c.args.rows.now ≡ false = rw (take_all c.loop-i.i c.args.rows.now c.loop-i-test.false) at c.loop-i.invariant in rw f refl

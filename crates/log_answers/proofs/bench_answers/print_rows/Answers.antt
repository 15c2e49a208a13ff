-- `bench_answers::print_rows` meets its contract. Assumes nothing.
use native.Mathlib.Omega.{arith}
use Prim.Native.Nat.{◌+◌}
use Rattle.log_forms.proofs.Printing.{printed-as}
use Rattle.log_answers.proofs.bench_answers.Questions.{row_before}
use Rattle.log_answers.specs.bench_answers.Asks.{row_at}
use Rattle.log_forms.proofs.Printing.{printed-first, printed-next, printed-last}
use Rattle.log_answers.proofs.bench_answers.print_rows.Goals as goal

pub loop-i-init : goal.loop-i-init
loop-i-init c = let s = c.args in printed-first (row_at s.rows.now) 1 s.edits.now s.printer.now

pub loop-i-preserved : goal.loop-i-preserved
loop-i-preserved c =
    let s = c.args in
    printed-next (row_at s.rows.now) 1 s.edits.now _ (c.loop-i.i + 1) (omega arith) c.loop-i-test.true c.loop-i.invariant (printed-as (row_before s.rows.now c.loop-i.i _ _ (omega (arith, c.loop-i-test.true, c.requires))) c.print_row.ensures)

pub returns : goal.returns
returns c = let s = c.args in printed-last (row_at s.rows.now) 1 s.edits.now c.loop-i.i (omega arith) c.loop-i.invariant

-- `bench_answers::print_hidden_edits` meets its contract. Assumes nothing.
use native.Mathlib.Omega.{arith}
use Prim.Native.Nat.{◌+◌}
use Rattle.log_answers.specs.bench_answers.Asks.{hidden_line}
use Rattle.log_forms.proofs.Printing.{printed-first, printed-next, printed-last}
use Rattle.log_answers.proofs.bench_answers.print_hidden_edits.Goals as goal

pub loop-i-init : goal.loop-i-init
loop-i-init c = let s = c.args in printed-first (hidden_line s.marks.now) 1 s.edits.now s.printer.now

pub loop-i-preserved : goal.loop-i-preserved
loop-i-preserved c =
    let s = c.args in
    printed-next (hidden_line s.marks.now) 1 s.edits.now _ (c.loop-i.i + 1) (omega arith) c.loop-i-test.true c.loop-i.invariant c.print_if_hidden.ensures

pub returns : goal.returns
returns c = let s = c.args in printed-last (hidden_line s.marks.now) 1 s.edits.now c.loop-i.i (omega arith) c.loop-i.invariant

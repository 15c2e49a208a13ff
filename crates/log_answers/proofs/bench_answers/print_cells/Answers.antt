-- `bench_answers::print_cells` meets its contract. Assumes nothing.
use borrow.Author.Rules.{rules}
use mathlib.Core.Path.{◌≡◌}
use native.Mathlib.Omega.{arith}
use lib.ListN.{length}
use Rattle.lists.proofs.Lists.{length-mapped}
use Rattle.log_answers.specs.bench_answers.Asks.{cell_line}
use Rattle.log_forms.proofs.Printing.{printed-first, printed-next, printed-last}
use Rattle.log_answers.proofs.bench_answers.print_cells.Goals as goal

pub loop-field-init : goal.loop-field-init
loop-field-init c = let s = c.args in printed-first (cell_line s.owner s.label) 0 s.cells.now s.printer.now

pub loop-field-preserved : goal.loop-field-preserved
loop-field-preserved c =
    let s = c.args in let l : length s.cells.now ≡ 4 = search (rules, length-mapped) in
    printed-next (cell_line s.owner s.label) 0 s.cells.now _ _ (omega arith) (omega arith) c.loop-field.invariant c.print_cell.ensures

pub returns : goal.returns
returns c = let s = c.args in let l : length s.cells.now ≡ 4 = search (rules, length-mapped) in printed-last (cell_line s.owner s.label) 0 s.cells.now c.loop-field.field (omega arith) c.loop-field.invariant

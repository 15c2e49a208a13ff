-- `bench_answers::print_entries` meets its contract. Assumes nothing.
use borrow.Author.Rules.{rules}
use mathlib.Core.Path.{◌≡◌}
use native.Mathlib.Omega.{arith}
use lib.ListN.{length}
use Rattle.lists.proofs.Lists.{length-mapped}
use Rattle.log_answers.specs.bench_answers.Asks.{entry_text}
use Rattle.log_forms.proofs.Printing.{printed-first, printed-next, printed-last}
use Rattle.log_answers.proofs.bench_answers.print_entries.Goals as goal

pub loop-chip-init : goal.loop-chip-init
loop-chip-init c = let s = c.args in printed-first entry_text 0 s.entries.now s.printer.now

pub loop-chip-preserved : goal.loop-chip-preserved
loop-chip-preserved c =
    let s = c.args in let l : length s.entries.now ≡ 64 = search (rules, length-mapped) in
    printed-next entry_text 0 s.entries.now _ _ (omega arith) (omega arith) c.loop-chip.invariant c.print_entry.ensures

pub returns : goal.returns
returns c = let s = c.args in let l : length s.entries.now ≡ 64 = search (rules, length-mapped) in printed-last entry_text 0 s.entries.now c.loop-chip.chip (omega arith) c.loop-chip.invariant

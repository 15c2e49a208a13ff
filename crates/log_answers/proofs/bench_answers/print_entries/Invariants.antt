use Rattle.log_forms.proofs.Printing.{PrintedTo}
use Rattle.log_answers.specs.bench_answers.Asks.{entry_text}
use Rattle.log_answers.proofs.bench_answers.print_entries.Given as goal

abbrev pub invariant-loop-chip : goal.invariant-loop-chip
invariant-loop-chip l = PrintedTo entry_text 0 l.entries l.chip l.initial.printer l.printer

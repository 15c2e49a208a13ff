use Rattle.log_forms.proofs.Printing.{PrintedTo}
use Rattle.log_answers.specs.bench_answers.Asks.{page_line}
use Rattle.log_answers.proofs.bench_answers.print_pages.Given as goal

abbrev pub invariant-loop-i : goal.invariant-loop-i
invariant-loop-i l = PrintedTo page_line 1 l.edits l.i l.initial.printer l.printer

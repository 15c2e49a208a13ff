use Rattle.log_forms.proofs.Printing.{PrintedTo}
use Rattle.log_answers.specs.bench_answers.Asks.{row_at}
use Rattle.log_answers.proofs.bench_answers.print_rows.Given as goal

abbrev pub invariant-loop-i : goal.invariant-loop-i
invariant-loop-i l = PrintedTo (row_at l.rows) 1 l.edits l.i l.initial.printer l.printer

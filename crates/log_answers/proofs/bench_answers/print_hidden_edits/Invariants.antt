use Rattle.log_forms.proofs.Printing.{PrintedTo}
use Rattle.log_answers.specs.bench_answers.Asks.{hidden_line}
use Rattle.log_answers.proofs.bench_answers.print_hidden_edits.Given as goal

abbrev pub invariant-loop-i : goal.invariant-loop-i
invariant-loop-i l = PrintedTo (hidden_line l.marks) 1 l.edits l.i l.initial.printer l.printer

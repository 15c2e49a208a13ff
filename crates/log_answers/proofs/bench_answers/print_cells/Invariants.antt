use Rattle.log_forms.proofs.Printing.{PrintedTo}
use Rattle.log_answers.specs.bench_answers.Asks.{cell_line}
use Rattle.log_answers.proofs.bench_answers.print_cells.Given as goal

abbrev pub invariant-loop-field : goal.invariant-loop-field
invariant-loop-field l = PrintedTo (cell_line l.owner l.label) 0 l.cells l.field l.initial.printer l.printer

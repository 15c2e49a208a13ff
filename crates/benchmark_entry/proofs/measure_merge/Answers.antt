-- `measure_merge` meets its contract. Assumes nothing.
use Rattle.std.specs.Prelude.{Ok, Err}
use Rattle.ledger.specs.Bench.{told_outcome}
use Rattle.benchmark_entry.proofs.Answers.{merged-twice}
use Rattle.benchmark_entry.proofs.measure_merge.Goals as goal

pub returns-in-Ok : goal.returns-in-Ok
returns-in-Ok c =
    merged-twice c.empty_bench-bench.result (told_outcome c.merge.result c.merge.new.bench) (told_outcome (Ok c.in-Ok.answer) c.merge-2.new.bench) c.args.edits.now c.args.constraints.now c.args.others.now
    c.args.other_constraints.now c.empty_bench-bench.ensures c.merge.ensures (rw c.in-Ok.is at c.merge-2.ensures)

pub returns-in-Err : goal.returns-in-Err
returns-in-Err c =
    rw c.number.ensures
    (merged-twice c.empty_bench-bench.result (told_outcome c.merge.result c.merge.new.bench) (told_outcome (Err c.in-Err.refusal) c.merge-2.new.bench) c.args.edits.now c.args.constraints.now c.args.others.now
    c.args.other_constraints.now c.empty_bench-bench.ensures c.merge.ensures (rw c.in-Err.is at c.merge-2.ensures))

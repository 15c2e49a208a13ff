use Rattle.bench_edits.proofs.Rows.{added-constraint}
use Rattle.bench_edits.proofs.add_constraint.Goals as goal

pub returns : goal.returns
returns c = added-constraint c.args.bench.now c.add_constraint-joined.result _ c.no_election.ensures _ c.joined_bench.ensures c.args.row c.add_constraint-joined.ensures

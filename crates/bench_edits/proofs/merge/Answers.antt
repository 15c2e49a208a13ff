use Rattle.bench_edits.proofs.Rows.{merged}
use Rattle.bench_edits.proofs.merge.Goals as goal

pub returns : goal.returns
returns c = merged c.args.bench.now c.merge-joined.result _ c.no_election.ensures _ c.joined_bench.ensures _ _ c.merge-joined.ensures

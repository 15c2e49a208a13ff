use Rattle.bench_edits.proofs.Rows.{added-edit}
use Rattle.bench_edits.proofs.add_edit.Goals as goal

pub returns : goal.returns
returns c = added-edit c.args.bench.now c.add_edit-joined.result _ c.no_election.ensures _ c.joined_bench.ensures c.args.row c.add_edit-joined.ensures

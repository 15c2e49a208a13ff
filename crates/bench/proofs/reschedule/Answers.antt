use native.Mathlib.Omega.{arith}
use Rattle.std.specs.Prelude.{Ok}
use Rattle.voting.specs.Tally.{election_told}
use Rattle.catalogue.proofs.Common.{common-le}
use Rattle.bench.proofs.Moves.{change-from}
use Rattle.bench.proofs.reschedule.Goals as goal

pub overflow_sub-undone : goal.overflow_sub-undone
overflow_sub-undone c =
    let s = c.args in
    let k = common-le s.bench.now.schedule.edits s.schedule.edits s.bench.now.turner.opened s.schedule.count _ c.common_beginning-common.ensures in
    omega arith

pub overflow_sub-redone : goal.overflow_sub-redone
overflow_sub-redone c =
    let s = c.args in
    let k = common-le s.bench.now.schedule.edits s.schedule.edits s.bench.now.turner.opened s.schedule.count _ c.common_beginning-common.ensures in
    omega arith

pub returns : goal.returns
returns c =
    let s = c.args in
    change-from s.bench.now s.multilog s.hidden s.schedule (election_told (Ok s.election)) _ _ _ c.accepted.ensures c.common_beginning-common.ensures c.change.ensures.opens

-- `measure_election` meets its contract. Assumes nothing.
use Rattle.std.proofs.Common.{◌∙◌}
use Rattle.std.specs.Prelude.{Ok}
use Rattle.lists.proofs.Tests.{byte-bit}
use Rattle.voting.specs.Tally.{election_told}
use Rattle.benchmark_entry.specs.Measured.{equal_seats}
use Rattle.benchmark_entry.proofs.Answers.{measured-election, election-refused}
use Rattle.benchmark_entry.proofs.measure_election.Goals as goal

pub returns-in-Ok : goal.returns-in-Ok
unfolding equal_seats
returns-in-Ok c =
    let answer = c.in-Ok.answer in
    measured-election c.args.edit c.args.edits.now c.args.constraints.now c.args.rivals.now c.args.rival_constraints.now
    (election_told (Ok answer)) c.in-Ok.ensures c.from.result (c.from.ensures ∙ byte-bit answer.won)

pub returns-in-Err : goal.returns-in-Err
unfolding equal_seats
returns-in-Err c =
    election-refused c.args.edit c.args.edits.now c.args.constraints.now c.args.rivals.now c.args.rival_constraints.now c.in-Err.refusal c.in-Err.ensures c.number.result c.number.ensures

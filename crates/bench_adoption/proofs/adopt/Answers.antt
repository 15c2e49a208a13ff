-- `adopt` meets its contract. Assumes nothing.
use Rattle.voting_count.specs.Count.{lent}
use Rattle.bench_adoption.proofs.Adopted.{adopt-answers}
use Rattle.bench_adoption.proofs.adopt.Goals as goal

pub returns : goal.returns
returns c =
    let poll = c.args.poll.now in
    adopt-answers c.args.bench.now c.args.edit (lent poll.proposals) poll.roll.now c.count-counted.result _ c.count-counted.ensures.told c.count-counted.ensures.bundle
    c.adopted_bench.ensures

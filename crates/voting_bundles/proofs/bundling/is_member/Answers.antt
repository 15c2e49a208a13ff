-- `bundling::is_member` meets its contract. Assumes nothing.
use Rattle.voting_bundles.proofs.bundling.Members.{mark_of}
use Rattle.voting_bundles.proofs.bundling.is_member.Goals as goal

pub returns : goal.returns
returns c = λ R m t e k. mark_of R m c.args.table.now c.args.marks.now t e c.args.name c.index_of.result k (rw (← c.from.ensures) c.index_of.ensures.is)

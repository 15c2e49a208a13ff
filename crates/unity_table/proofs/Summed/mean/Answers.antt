-- `mean` meets its contract. Assumes nothing.
use Rattle.unity_table.proofs.Ends.{end-divided, mean_none, mean-divided}
use Rattle.unity_table.proofs.Summed.mean.Goals as goal

pub returns-then-self-eq0 : goal.returns-then-self-eq0
returns-then-self-eq0 c = λ l o. mean_none c.args.self l o c.if-self-eq0.true

pub divided-requires : goal.divided-requires
divided-requires c = end-divided c.args.self c.requires.answers c.requires.after c.if-self-eq0.false

pub returns : goal.returns
returns c = λ l o. mean-divided c.args.self l o c.if-self-eq0.false c.divided.ensures

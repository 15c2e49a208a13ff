-- `last_end` meets its contract. Assumes nothing.
use borrow.Author.Rules.{rules}
use Rattle.stream.proofs.Front.{last_none, last_at}
use Rattle.stream.proofs.last_end.Goals as goal

pub returns-in-Some : goal.returns-in-Some
returns-in-Some c = last_at c.args.bytes.now c.in-Some.at (search rules) (search rules) (search rules)

pub returns-in-None : goal.returns-in-None
returns-in-None c = last_none c.args.bytes.now (search rules)

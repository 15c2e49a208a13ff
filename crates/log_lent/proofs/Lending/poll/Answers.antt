-- `Lending::poll` meets its contract. Assumes nothing.
use borrow.Author.Rules.{rules}
use Rattle.log_lent.proofs.lent_calls.Given.{proposals-lent}
use Rattle.log_lent.proofs.Lending.poll.Goals as goal

pub returns-clause-proposals : goal.returns-clause-proposals
returns-clause-proposals c = λ L K.
    let f = c.from_fn.ensures.items in
    proposals-lent L c.from_fn.result f.long (λ i d h. let r = f.at i d h in search rules)

-- `decisions::decision` meets its contract. Assumes nothing.
use Rattle.voting_decisions.proofs.Paging.{aborted-is, required-is}
use Rattle.voting_decisions.proofs.decision.Goals as goal

pub returns-then-page-eq0 : goal.returns-then-page-eq0
returns-then-page-eq0 c =
    aborted-is c.args.name c.args.page c.if-page-eq0.true c.notafter.ensures

pub returns : goal.returns
returns c =
    required-is c.args.name c.args.page c.if-page-eq0.false

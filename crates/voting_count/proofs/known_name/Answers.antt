-- `known_name` meets its contract. Assumes nothing.
use Rattle.std.proofs.lemmas.Result.{err_from_is_err_and}
use Rattle.voting_count.specs.Count.{lent}
use Rattle.voting_count.proofs.Answers.{name-no-name, name-unknown, name-known}
use Rattle.voting_count.proofs.known_name.Goals as goal

pub returns-in_err-name : goal.returns-in_err-name
returns-in_err-name c =
    let p = err_from_is_err_and c.from_residual.result c.from_residual.ensures.1 in
    λ h. rw (p.1, p.2) (name-no-name c.args.edit (lent c.args.proposals.now) c.in_err-name.ensures, tt)

pub returns-then-not-is_known : goal.returns-then-not-is_known
returns-then-not-is_known c = λ h. (name-unknown c.args.edit (lent c.args.proposals.now) h c.in_ok-name.ensures c.is_known.ensures c.if-not-is_known.true, tt)

pub returns : goal.returns
returns c = λ h. name-known c.args.edit (lent c.args.proposals.now) h c.in_ok-name.ensures c.is_known.ensures c.if-not-is_known.false

-- `members::forward_key` meets its contract. Assumes nothing.
use mathlib.Core.Path.{◌∙◌}
use native.Mathlib.Omega.{arith}
use borrow.Author.Rules.{rules}
use Rattle.voting_members.proofs.Keys.{forward-notafter, forward-enables, forward-rival}
use Rattle.voting_members.proofs.forward_key.Goals as goal

pub returns-in-0 : goal.returns-in-0
returns-in-0 c = (omega arith, λ R g l m. forward-notafter R c.args.c.left c.args.c.rule c.args.c.right c.in-0.is)

pub returns-in-1 : goal.returns-in-1
returns-in-1 c = (c.enabled_key.ensures.0, λ R g l m. c.enabled_key.ensures.1 ∙ forward-enables R c.args.c.left c.args.c.rule c.args.c.right c.in-1.is)

pub returns-in_default : goal.returns-in_default
returns-in_default c = (c.rival_key.ensures.0, λ R g l m. c.rival_key.ensures.1 R g l m ∙ forward-rival R c.args.c.left c.args.c.rule c.args.c.right (search rules) (search rules))

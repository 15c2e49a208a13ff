-- `members::backward_key` meets its contract. Assumes nothing.
use mathlib.Core.Path.{◌∙◌}
use native.Mathlib.Omega.{arith}
use borrow.Author.Rules.{rules}
use Rattle.voting_members.proofs.Keys.{backward-none, backward-rival}
use Rattle.voting_members.proofs.backward_key.Goals as goal

pub returns-in-0 : goal.returns-in-0
returns-in-0 c = (omega arith, λ R g l m. backward-none R c.args.c.left c.args.c.rule c.args.c.right (search rules))

pub returns-in_default : goal.returns-in_default
returns-in_default c = (c.rival_key.ensures.0, λ R g l m. c.rival_key.ensures.1 R g m l ∙ backward-rival R c.args.c.left c.args.c.rule c.args.c.right (search rules))

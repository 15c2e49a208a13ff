-- `members::rival_key` meets its contract. Assumes nothing.
use mathlib.Core.Path.{sym, ◌∙◌}
use native.Mathlib.Omega.{arith}
use Rattle.record.specs.Record.{notafter}
use Rattle.voting_members.proofs.Keys.{rival-ordered, rival-open}
use Rattle.voting_members.proofs.rival_key.Goals as goal

pub returns-then-leads_to : goal.returns-then-leads_to
returns-then-leads_to c = (omega arith, λ R g l m. rival-ordered R c.args.from c.args.to (sym c.if-leads_to.true ∙ c.leads_to.ensures (notafter R) R g.notafters m l))

pub returns-else-leads_to : goal.returns-else-leads_to
returns-else-leads_to c = (omega arith, λ R g l m. rival-open R c.args.from c.args.to (sym c.if-leads_to.false ∙ c.leads_to.ensures (notafter R) R g.notafters m l))

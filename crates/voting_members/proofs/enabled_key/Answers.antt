-- `members::enabled_key` meets its contract. Assumes nothing.
use native.Mathlib.Omega.{arith}
use Rattle.voting_members.proofs.Keys.{enabled-init, enabled-written}
use Rattle.voting_members.proofs.enabled_key.Goals as goal

pub returns-then-right-eq0 : goal.returns-then-right-eq0
returns-then-right-eq0 c = (omega arith, enabled-init _ c.if-right-eq0.true)

pub returns-else-right-eq0 : goal.returns-else-right-eq0
returns-else-right-eq0 c = (omega arith, enabled-written _ c.if-right-eq0.false)

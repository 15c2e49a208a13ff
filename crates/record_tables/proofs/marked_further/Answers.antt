-- `marked_further` meets its contract. Assumes nothing.
use Rattle.record_tables.specs.Checked.{marked_further}
use Rattle.record_tables.proofs.marked_further.Goals as goal

pub returns-then-not-known : goal.returns-then-not-known
unfolding marked_further
returns-then-not-known c = rw (← c.marked.ensures, ← c.marked-2.ensures, c.if-not-known.true)

pub returns-then-pair_not_allowed : goal.returns-then-pair_not_allowed
unfolding marked_further
returns-then-pair_not_allowed c = rw (← c.marked.ensures, ← c.marked-2.ensures, c.if-not-known.false, ← c.pair_not_allowed.ensures, c.if-pair_not_allowed.true)

pub returns-then-decision : goal.returns-then-decision
unfolding marked_further
returns-then-decision c =
    rw (← c.marked.ensures, ← c.marked-2.ensures, c.if-not-known.false, ← c.pair_not_allowed.ensures, c.if-pair_not_allowed.false, ← c.is_decision.ensures, c.if-decision.true)

pub returns : goal.returns
unfolding marked_further
returns c =
    rw (← c.marked.ensures, ← c.marked-2.ensures, c.if-not-known.false, ← c.pair_not_allowed.ensures, c.if-pair_not_allowed.false, ← c.is_decision.ensures, c.if-decision.false)

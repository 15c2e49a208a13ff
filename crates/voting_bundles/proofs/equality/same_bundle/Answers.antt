-- `equality::same_bundle` meets its contract. Assumes nothing.
use Rattle.voting_bundles.proofs.equality.Equal.{edits-differ, constraints-decide}
use Rattle.voting_bundles.proofs.equality.same_bundle.Goals as goal

pub returns-then-eq : goal.returns-then-eq
returns-then-eq c = λ P Q p q.
    constraints-decide c.args.a.now c.args.b.now P Q p q _ (rw (← c.edit_slice.ensures, ← c.edit_slice-2.ensures) c.eq.ensures) c.if-eq.true _
    (rw (← c.constraint_slice.ensures, ← c.constraint_slice-then-eq.ensures) c.eq-then-eq.ensures)

pub returns-else-eq : goal.returns-else-eq
returns-else-eq c = λ P Q p q.
    edits-differ c.args.a.now c.args.b.now P Q p q _ (rw (← c.edit_slice.ensures, ← c.edit_slice-2.ensures) c.eq.ensures) c.if-eq.false

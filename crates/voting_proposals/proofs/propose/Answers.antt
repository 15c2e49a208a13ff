-- `propose` meets its contract. Assumes nothing.
use native.Mathlib.Omega.{arith}
use Rattle.std.proofs.lemmas.Result.{err_from_is_err_and}
use Rattle.voting_proposals.proofs.Answers.{tables-refused, few-edits, few-constraints, written_is}
use Rattle.voting_proposals.proofs.propose.Goals as goal
use Rattle.voting_proposals.proofs.propose.Goals.{then-new_edits-n-via-then-new_edits-n, then-new_edits-n-via-else-new_edits-n+then-new_constraints-m}

pub returns-in_err-new : goal.returns-in_err-new
returns-in_err-new c =
    let p = err_from_is_err_and c.from_residual.result c.from_residual.ensures.1 in rw (p.1, p.2) (tables-refused _ c.in_err-new.field-0.0 c.in_err-new.ensures.0)

pub returns-then-new_edits-n : goal.returns-then-new_edits-n
returns-then-new_edits-n c =
    let p = c.in_ok-new.ensures in
    elim c.then-new_edits-n.branch [
      | then-new_edits-n-via-then-new_edits-n w ↦ few-edits _ p.0 p.1 c.edit_slice-n.ensures c.constraint_slice-m.ensures w.if-new_edits-n.true
      | then-new_edits-n-via-else-new_edits-n+then-new_constraints-m w ↦ few-constraints _ p.0 p.1 c.edit_slice-n.ensures c.constraint_slice-m.ensures w.if-new_edits-n.false w.if-new_constraints-m.true
    ]

pub write_rows-requires : goal.write_rows-requires
write_rows-requires c = (omega arith, rw (c.edit_slice.ensures, ← c.edit_slice-n.ensures) c.if-new_edits-n.false)

pub write_rows-requires-2 : goal.write_rows-requires-2
write_rows-requires-2 c = (omega arith, rw (c.constraint_slice.ensures, ← c.constraint_slice-m.ensures) c.if-new_constraints-m.false)

pub returns : goal.returns
returns c =
    let p = c.in_ok-new.ensures in
    written_is _ p.0 p.1 c.edit_slice-n.ensures c.constraint_slice-m.ensures c.if-new_edits-n.false c.if-new_constraints-m.false
    (rw (c.edit_slice.ensures, ← c.edit_slice-n.ensures) at c.write_rows.ensures) (rw (c.constraint_slice.ensures, ← c.constraint_slice-m.ensures) at c.write_rows-2.ensures)

-- The product's own call makes such rows: a proposal that it accepts is sound and keeps the old one. Assumes nothing.
use mathlib.Core.Path.{◌≡◌}
use mathlib.Core.Bool.{not}
use borrow.Author.Tests.{eq-eqb, not-false}
use Rattle.record.specs.Record.{Record}
use Rattle.record.proofs.Judged.{sound-is}
use Rattle.record_rows.specs.grounds.Ground.{◌given◌}
use Rattle.record_rows.proofs.grounds.Grounds.{orelse-none, given-none}
use Rattle.record_tables.specs.Table.{empty_tables, lent_fault, unite}
use Rattle.record_tables.specs.Checked.{Checked}
use Rattle.record_tables.proofs.Records.{checked-wellformed, lent-checked, joined-checked}
use Rattle.graph.proofs.indexes.Fit.{checked-fit}
use Rattle.voting.specs.Proposal.{started, proposed, Paired, Keeps, keeps}
use Rattle.voting.proofs.Finished.{finished-well-formed, finished-sound}
use Rattle.voting.proofs.Proposed.{keeps-is}
use Rattle.voting_proposals.specs.Propose.{draft_fault, unkept, LentToPropose, record_m, proposal_q, propose_fault, new_proposal}
use Rattle.voting_proposals.proofs.Drafts.{start-faultless}
use Rattle.voting_mergeability.specs.Mergeability.{SoundTables}

checked-paired : (R : Record) → Checked R → Paired R
checked-paired R k = record { lower = (checked-fit R k).paired }

-- a draft without fault is sound
drafted-sound : (M Q : Record) → Checked (unite M Q) → draft_fault M Q ≡ 0 → SoundTables (proposed M Q)
unfolding proposed
drafted-sound M Q k h =
    let s = start-faultless M Q k h in
    let w = checked-wellformed (started M Q) s.0 in
    let p = checked-paired (started M Q) s.0 in
    let f = finished-well-formed w p s.1 in
    record { formed = f; has-schedule = (sound-is _ f).0 (finished-sound w p s.1) }

-- An accepted proposal is sound and keeps the old one: one more of a row.
pub proposal-next : (t : LentToPropose) → propose_fault t ≡ 0 → SoundTables (new_proposal t) × Keeps (proposal_q t) (new_proposal t)
unfolding new_proposal propose_fault unkept
proposal-next t h =
    let M = record_m t in
    let Q = proposal_q t in
    let a = orelse-none (lent_fault empty_tables t.edits t.constraints) _ h in
    let b = orelse-none (lent_fault M t.old_edits t.old_constraints) _ a.1 in
    let c = orelse-none (draft_fault M Q) _ b.1 in
    let d = orelse-none (11 given not (keeps Q (proposed M Q))) _ c.1 in
    let k = joined-checked M t.old_edits t.old_constraints (lent-checked t.edits t.constraints a.0) b.0 in
    rw (eq-eqb (propose_fault t) 0 h)
    (drafted-sound M Q k c.0, (keeps-is Q (proposed M Q)).0 (not-false (keeps Q (proposed M Q)) (given-none 10 (not (keeps Q (proposed M Q))) d.0)))

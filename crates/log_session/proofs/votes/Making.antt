-- A proposal made from what is lent: what is printed, and what is lent then. Assumes nothing.
use mathlib.Core.Path.{◌≡◌, refl, sym, ◌∙◌}
use mathlib.Core.Bool.{true, false, ◌&&◌, and-false}
use Prim.Native.Nat.{ℕ}
use native.Mathlib.Omega.{arith}
use lib.Dec.{eqb, ltb}
use borrow.Author.Tests.{eq-eqb, ne_eqb}
use Rattle.refusals.specs.declared.Refusal.{Refusal}
use Rattle.refusals.specs.Numbers.{number}
use Rattle.refusals.proofs.Numbers.{number-positive}
use Rattle.record.specs.declared.Record as declared
use Rattle.record.specs.Stored.{stored}
use Rattle.lists.proofs.Lists.{by}
use Rattle.record_rows.proofs.grounds.Grounds.{orelse-none}
use Rattle.record_tables.specs.Table.{empty_tables, lent_fault}
use Rattle.record_tables.specs.Checked.{Checked}
use Rattle.record_tables.proofs.Records.{joined-checked, lent-checked}
use Rattle.voting_proposals.specs.Propose as proposal
use Rattle.voting_proposals.specs.Propose.{record_m, proposal_q, draft_fault, propose_fault, new_proposal}
use Rattle.voting_proposals.proofs.Drafts.{drafted-checked}
use Rattle.log_forms.specs.declared.Printer.{Printer}
use Rattle.log_forms.specs.Printed.{Printed}
use Rattle.log_commands.specs.declared.Proposing.{Proposing}
use Rattle.log_lent.specs.declared.Lending.{Lending}
use Rattle.log_lent.specs.Lent.{Lent, is_lent, with_record}
use Rattle.log_lent.specs.Kept.{Kept}
use Rattle.log_lent.specs.lent_proposals.Made.{tables_of, lent_proposal_fault, proposal_made}
use Rattle.log_session.specs.declared.Session.{Session}
use Rattle.log_session.specs.Desk.{Desk, bench_in}
use Rattle.log_session.specs.calls.Lines.{Holds}
use Rattle.log_answers.specs.Answers.{record_text}
use Rattle.log_session.specs.votes.Votes.{proposal_effect}
use Rattle.log_session.proofs.calls.Telling.{same-calls}

-- a new proposal is within the limits
pub proposal-checked : (t : proposal.LentToPropose) → propose_fault t ≡ 0 → Checked (new_proposal t)
unfolding new_proposal propose_fault
proposal-checked t z =
    let a = orelse-none (lent_fault empty_tables t.edits t.constraints) _ z in
    let b = orelse-none (lent_fault (record_m t) t.old_edits t.old_constraints) _ a.1 in
    let d = orelse-none (draft_fault (record_m t) (proposal_q t)) _ b.1 in
    let e : eqb (propose_fault t) 0 ≡ true = eq-eqb (propose_fault t) 0 z in
    rw e (drafted-checked (record_m t) (proposal_q t) (joined-checked (record_m t) t.old_edits t.old_constraints (lent-checked t.edits t.constraints a.0) b.0) d.0)

pub made-checked : (L : Lent) (w : Proposing) → lent_proposal_fault L w ≡ 0 → Checked (proposal_made L w)
unfolding lent_proposal_fault proposal_made
made-checked L w z =
    by (is_lent w.lent && is_lent w.old)
    (λ (e : (ltb w.lent 9 && ltb w.old 9) ≡ true). rw e (proposal-checked (tables_of L w) (rw e at z)))
    (λ (e : (ltb w.lent 9 && ltb w.old 9) ≡ false). absurd (let w : ◌≡◌ {A = ℕ} 2 0 = rw e at z in omega arith))

module _ (D : Desk) (w : Proposing) where
  -- the calls on the bench stay
  pub proposal-held : {session : Session} → session.bench ≡ bench_in D → Kept (proposal_effect D w).after.lent session.lending → Holds (proposal_effect D w).after session
  unfolding proposal_effect
  proposal-held b k = record { benched = b ∙ same-calls D (proposal_effect D w).after refl; kept = k }

  module _ {lending : Lending} where
    pub refused-lent : (r : Refusal) → number r ≡ lent_proposal_fault D.lent w → Kept D.lent lending → Kept (proposal_effect D w).after.lent lending
    unfolding proposal_effect
    refused-lent r q K =
        let n = lent_proposal_fault D.lent w in
        let e : eqb n 0 ≡ false = ne_eqb n 0 (λ z. number-positive r (q ∙ z)) in
        rw e K

    pub unkept-lent : w.keep ≡ false → Kept D.lent lending → Kept (proposal_effect D w).after.lent lending
    unfolding proposal_effect
    unkept-lent e K = rw (e, and-false) K

    pub kept-lent : 0 ≡ lent_proposal_fault D.lent w → w.keep ≡ true
        → Kept (with_record D.lent w.old (proposal_made D.lent w)) lending → Kept (proposal_effect D w).after.lent lending
    unfolding proposal_effect proposal_made
    kept-lent z k K =
        let n = lent_proposal_fault D.lent w in
        let e : eqb n 0 ≡ true = eq-eqb n 0 (sym z) in
        rw (e, k) K

  pub made-printed : {new : declared.Record} → new ≡ stored (proposal_made D.lent w) → {before after : Printer} → Printed (record_text new) before after
      → Printed (proposal_effect D w).text before after
  unfolding proposal_effect
  made-printed q p = rw q at p

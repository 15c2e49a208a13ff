-- The answers of making a proposal, return by return. Assumes nothing.
use mathlib.Core.Path.{◌≡◌, ap, sym, ◌∙◌}
use mathlib.Core.Bool.{Bool, true, false}
use mathlib.Core.List.{List, map}
use Prim.Native.Nat.{ℕ, ◌≤◌, ◌<◌}
use native.Mathlib.Omega.{arith}
use borrow.Author.Tests.{ne_eqb, lt-ltb, le-ltb}
use lib.Dec.{eqb, ltb}
use lib.ListN.{length, take}
use Rattle.std.specs.Prelude.{Ok, Err}
use Rattle.record.specs.declared.Edit.{Edit}
use Rattle.record.specs.declared.Constraint.{Constraint}
use Rattle.record.specs.declared.Record as declared
use Rattle.record.specs.Record.{Record, written}
use Rattle.lists.specs.Lists.{◌within◌}
use Rattle.record.specs.Stored.{stored, record_of}
use Rattle.lists.proofs.Lists.{by}
use Rattle.record_rows.specs.row.Row.{edit_row, constraint_row}
use Rattle.record_rows.specs.grounds.Ground.{Rows, ◌given◌, ◌orelse◌}
use Rattle.record_rows.proofs.grounds.Grounds.{orelse-first, orelse-second}
use Rattle.record_tables.specs.Table.{empty_tables, decoded, lent_fault, unite}
use Rattle.record_tables.specs.Checked.{Checked}
use Rattle.record_tables.proofs.Tables.{stored_back}
use Rattle.record_tables.proofs.Unions.{joining-extends}
use Rattle.record_tables.proofs.Records.{lent-checked, joined-checked, joining-checked, joining-editplaces, joining-constraintplaces}
use Rattle.voting.specs.Proposal.{joined_constraints, started, finished, proposed, keeps}
use Rattle.refusals.specs.declared.Refusal.{Refusal}
use Rattle.refusals.specs.declared.Refusal.TheVariants.{NoRoom}
use Rattle.refusals.specs.Numbers.{number}
use Rattle.refusals.proofs.Numbers.{number-positive}
use Rattle.voting_proposals.specs.Propose.{draft_fault, unkept, too_short, LentToPropose, record_m, proposal_q, propose_fault, new_proposal, over, Makes, new_fault}
use Rattle.voting_proposals.proofs.Drafts.{drafted-checked}

-- the new proposal knows the edits of the old
pub knows-old : (M Q : Record) → written Q within written (proposed M Q)
unfolding proposed finished joined_constraints started written
knows-old M Q x h = (joining-extends M Q).edits x h

-- keeping, after a draft
module _ (M Q : Record) where
  pub draft-refused : (n : ℕ) → n ≡ draft_fault M Q → (n ≡ 0 → ⊥) → n ≡ (draft_fault M Q orelse 11 given unkept M Q)
  draft-refused n e z = e ∙ sym (orelse-first (draft_fault M Q) (11 given unkept M Q) (λ q. z (e ∙ q)))

  module _ (z : 0 ≡ draft_fault M Q) where
    pub new-checked : Checked (unite M Q) → Checked (proposed M Q)
    new-checked k = drafted-checked M Q k (sym z)

    pub not-kept : {b : Bool} → b ≡ keeps Q (proposed M Q) → b ≡ false → 11 ≡ (draft_fault M Q orelse 11 given unkept M Q)
    unfolding unkept
    not-kept f g = let q : keeps Q (proposed M Q) ≡ false = sym f ∙ g in sym (orelse-second (draft_fault M Q) (11 given unkept M Q) (sym z) ∙ rw q)

    pub is-kept : {b : Bool} → b ≡ keeps Q (proposed M Q) → b ≡ true → 0 ≡ (draft_fault M Q orelse 11 given unkept M Q)
    unfolding unkept
    is-kept f g = let q : keeps Q (proposed M Q) ≡ true = sym f ∙ g in sym (orelse-second (draft_fault M Q) (11 given unkept M Q) (sym z) ∙ rw q)

-- the rows of four tables
module _ (es cs oes ocs : Rows) where
  abbrev M : Record
  M = decoded es cs

  abbrev Q : Record
  Q = decoded oes ocs

  pub propose-rows-refused : (n : ℕ) → n ≡ lent_fault empty_tables es cs → (n ≡ 0 → ⊥) → n ≡ new_fault es cs oes ocs
  propose-rows-refused n e z = e ∙ sym (orelse-first (lent_fault empty_tables es cs) (lent_fault M oes ocs orelse draft_fault M Q orelse 11 given unkept M Q) (λ q. z (e ∙ q)))

  module _ (none : 0 ≡ lent_fault empty_tables es cs) where
    pub own-checked : Checked M
    own-checked = lent-checked es cs (sym none)

    pub old-refused : (n : ℕ) → n ≡ lent_fault M oes ocs → (n ≡ 0 → ⊥) → n ≡ new_fault es cs oes ocs
    old-refused n e y =
        e ∙ sym (orelse-second (lent_fault empty_tables es cs) (lent_fault M oes ocs orelse draft_fault M Q orelse 11 given unkept M Q) (sym none)
        ∙ orelse-first (lent_fault M oes ocs) (draft_fault M Q orelse 11 given unkept M Q) (λ q. y (e ∙ q)))

    module _ (second : 0 ≡ lent_fault M oes ocs) where
      pub both-checked : Checked (unite M Q)
      both-checked = joined-checked M oes ocs own-checked (sym second)

      pub old-checked : Checked Q
      old-checked = joining-checked M oes ocs own-checked (sym second)

      pub old-few : (length oes ≤ 127) × (length ocs ≤ 512)
      old-few = (joining-editplaces M _ false oes ocs own-checked (sym second), joining-constraintplaces M _ false oes ocs own-checked (sym second))

      pub made-rows : new_fault es cs oes ocs ≡ (draft_fault M Q orelse 11 given unkept M Q)
      made-rows =
          orelse-second (lent_fault empty_tables es cs) (lent_fault M oes ocs orelse draft_fault M Q orelse 11 given unkept M Q) (sym none)
          ∙ orelse-second (lent_fault M oes ocs) (draft_fault M Q orelse 11 given unkept M Q) (sym second)

-- a number that is given stays so with a further ground, and with none the further one decides
further : (a b c d f : ℕ) → (a orelse b orelse c orelse d orelse f) ≡ ((a orelse b orelse c orelse d) orelse f)
further a b c d f =
    by (eqb a 0) (λ p. by (eqb b 0) (λ q. by (eqb c 0) (λ r. rw (p, q, r)) (λ r. rw (p, q, r, r))) (λ q. rw (p, q, q))) (λ p. rw (p, p))

module _ (t : LentToPropose) where
  abbrev pub fault : ℕ
  fault = new_fault t.edits t.constraints t.old_edits t.old_constraints

  abbrev pub new : Record
  new = proposed (record_m t) (proposal_q t)

  abbrev pub short : ℕ
  short = 12 given too_short (length t.new_edits) (length t.new_constraints) new

  pub fault-is : propose_fault t ≡ (fault orelse short)
  unfolding propose_fault
  fault-is =
      further (lent_fault empty_tables t.edits t.constraints) (lent_fault (record_m t) t.old_edits t.old_constraints) (draft_fault (record_m t) (proposal_q t)) (11 given unkept (record_m t) (proposal_q t)) short

  -- refused: nothing is written
  refused-is : (r : Refusal) → number r ≡ propose_fault t → Makes t (Err r) t.new_edits t.new_constraints
  unfolding new_proposal
  refused-is r e =
      let b : eqb (propose_fault t) 0 ≡ false = ne_eqb (propose_fault t) 0 (λ q. number-positive r (e ∙ q)) in
      record { answers = (e, tt); editrows = rw b; constraintrows = rw b }

  pub tables-refused : (r : Refusal) → number r ≡ fault → Makes t (Err r) t.new_edits t.new_constraints
  tables-refused r e = refused-is r (e ∙ sym (fault-is ∙ orelse-first fault short (λ q. number-positive r (e ∙ q))))

  -- the rows of the new proposal are at hand
  module _ {made : declared.Record} (none-new : 0 ≡ fault) (new-held : made ≡ stored new) {es : List Edit} {cs : List Constraint}
      (e : es ≡ take made.edit_count made.edits) (c : cs ≡ take made.constraint_count made.constraints) where
    edits-are : es ≡ new.edits
    edits-are = e ∙ ap (λ (R : Record). R.edits) (ap record_of new-held ∙ stored_back new)

    constraints-are : cs ≡ new.constraints
    constraints-are = c ∙ ap (λ (R : Record). R.constraints) (ap record_of new-held ∙ stored_back new)

    -- 12: exactly enough is enough
    pub few-edits : length t.new_edits < length es → Makes t (Err NoRoom) t.new_edits t.new_constraints
    unfolding too_short
    few-edits h =
        let l : ltb (length t.new_edits) (length new.edits) ≡ true = lt-ltb (length t.new_edits) (length new.edits) (omega (arith, ap length edits-are)) in
        refused-is NoRoom (sym (fault-is ∙ orelse-second fault short (sym none-new) ∙ rw l))

    module _ (h : length es ≤ length t.new_edits) where
      enough : ltb (length t.new_edits) (length new.edits) ≡ false
      enough = le-ltb (length t.new_edits) (length new.edits) (omega (arith, ap length edits-are))

      pub few-constraints : length t.new_constraints < length cs → Makes t (Err NoRoom) t.new_edits t.new_constraints
      unfolding too_short
      few-constraints i =
          let l : ltb (length t.new_constraints) (length new.constraints) ≡ true = lt-ltb (length t.new_constraints) (length new.constraints) (omega (arith, ap length constraints-are)) in
          refused-is NoRoom (sym (fault-is ∙ orelse-second fault short (sym none-new) ∙ rw (enough, l)))

      module _ (i : length cs ≤ length t.new_constraints) where
        proposal-accepted : propose_fault t ≡ 0
        unfolding too_short
        proposal-accepted =
            let l : ltb (length t.new_constraints) (length new.constraints) ≡ false = le-ltb (length t.new_constraints) (length new.constraints) (omega (arith, ap length constraints-are)) in
            fault-is ∙ orelse-second fault short (sym none-new) ∙ rw (enough, l)

        given-new : new ≡ new_proposal t
        unfolding new_proposal
        given-new = rw proposal-accepted

        pub written_is : {editrows constraintrows : Rows} → editrows ≡ over (map edit_row es) t.new_edits → constraintrows ≡ over (map constraint_row cs) t.new_constraints
            → Makes t (Ok (record { edit_count = length es; constraint_count = length cs })) editrows constraintrows
        written_is f g =
            let x : es ≡ (new_proposal t).edits = edits-are ∙ ap (λ (R : Record). R.edits) given-new in
            let y : cs ≡ (new_proposal t).constraints = constraints-are ∙ ap (λ (R : Record). R.constraints) given-new in
            record {
              answers = (sym proposal-accepted, λ j. record { edit_count = length (x j); constraint_count = length (y j) });
              editrows = f ∙ ap (λ (l : List Edit). over (map edit_row l) t.new_edits) x;
              constraintrows = g ∙ ap (λ (l : List Constraint). over (map constraint_row l) t.new_constraints) y;
            }

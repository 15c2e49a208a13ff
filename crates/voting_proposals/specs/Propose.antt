-- Document 01, "Proposals and votes", last paragraph, and "What is turned away": making a proposal from a lent record M and the bench's old proposal
-- Q, and what is answered and written. Assumes nothing.
use Rattle.std.specs.Prelude.{◌≡◌, Bool, not, ◌||◌, cond, ◌++◌, ℕ, eqb, ltb, length, drop, Result}
use Rattle.record.specs.Record.{Record}
use Rattle.record.specs.Stored.{constraint_limit}
use Rattle.record.specs.Judgement.{sound}
use Rattle.record_rows.specs.grounds.Ground.{Rows, ◌given◌, ◌orelse◌}
use Rattle.refusals.specs.declared.Refusal.{Refusal}
use Rattle.refusals.specs.Numbers.{Gives}
use Rattle.record_tables.specs.Table.{edit_rows, constraint_rows, decoded, empty_tables, lent_fault}
use Rattle.voting.specs.Proposal.{started, proposed, keeps}
use Rattle.voting_proposals.specs.declared.Proposed.{Proposed}

-- 3: some of the rows had no place left
unfoldable pub overfull : Record → Bool
overfull R = ltb constraint_limit (length R.constraints)

-- The union with the rows "b notafter a": lack of place ahead of 8. An unsound Q is 8 at once, since settled is said of a sound record; an unsound M
-- shows as 8 of the union. Then the decisions and orders, which come after the scheduling.
unfoldable pub draft_fault : Record → Record → ℕ
draft_fault M Q =
    8 given not (sound Q)
    orelse 3 given overfull (started M Q)
    orelse 8 given not (sound (started M Q))
    orelse 3 given overfull (proposed M Q)

-- 11: the new proposal doesn't keep the old one
unfoldable pub unkept : Record → Record → Bool
unkept M Q = not (keeps Q (proposed M Q))

-- 12: the lent output is too short; exactly enough is enough
unfoldable pub too_short : ℕ → ℕ → Record → Bool
too_short editplaces constraintplaces R = ltb editplaces (length R.edits) || ltb constraintplaces (length R.constraints)

-- What is lent: the tables of M and of Q, and the tables that take the new proposal.
pub record LentToPropose : Type 0 where
  pub edits : Rows
  pub constraints : Rows
  pub old_edits : Rows
  pub old_constraints : Rows
  pub new_edits : Rows
  pub new_constraints : Rows

abbrev pub record_m : LentToPropose → Record
record_m t = decoded t.edits t.constraints

abbrev pub proposal_q : LentToPropose → Record
proposal_q t = decoded t.old_edits t.old_constraints

-- the number: rows of M; rows of Q, which join M; the faults of the whole call
unfoldable pub propose_fault : LentToPropose → ℕ
propose_fault t =
    lent_fault empty_tables t.edits t.constraints
    orelse lent_fault (record_m t) t.old_edits t.old_constraints
    orelse draft_fault (record_m t) (proposal_q t)
    orelse 11 given unkept (record_m t) (proposal_q t)
    orelse 12 given too_short (length t.new_edits) (length t.new_constraints) (proposed (record_m t) (proposal_q t))

-- what is given: the new proposal, and nothing where it is refused
unfoldable pub new_proposal : LentToPropose → Record
new_proposal t = cond (eqb (propose_fault t) 0) (proposed (record_m t) (proposal_q t)) empty_tables

-- THE ANSWER where it is not refused: how many rows of each table are written
abbrev pub proposed_of : LentToPropose → Proposed
proposed_of t = record { edit_count = length (new_proposal t).edits; constraint_count = length (new_proposal t).constraints }

-- rows written over the first of a table; what stands after them stays
abbrev pub over : Rows → Rows → Rows
over rows table = rows ++ drop (length rows) table

abbrev pub edits_after : LentToPropose → Rows
edits_after t = over (edit_rows (new_proposal t)) t.new_edits

abbrev pub constraints_after : LentToPropose → Rows
constraints_after t = over (constraint_rows (new_proposal t)) t.new_constraints

-- What making a proposal promises: the answer, and the whole content of both tables afterwards.
pub record Makes (t : LentToPropose) (answer : Result Proposed Refusal) (edits constraints : Rows) : Type 0 where
  pub answers : Gives (propose_fault t) (proposed_of t) answer
  pub editrows : edits ≡ edits_after t
  pub constraintrows : constraints ≡ constraints_after t

-- the same before the lent output is looked at. Inner: what is refused says proposal_fault
abbrev pub new_fault : Rows → Rows → Rows → Rows → ℕ
new_fault edits constraints old_edits old_constraints =
    let M = decoded edits constraints in
    let Q = decoded old_edits old_constraints in
    lent_fault empty_tables edits constraints orelse lent_fault M old_edits old_constraints orelse draft_fault M Q orelse 11 given unkept M Q

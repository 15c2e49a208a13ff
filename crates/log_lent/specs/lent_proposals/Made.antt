-- A proposal made from the records that the lines of a call log lend. Assumes nothing.
use Rattle.std.specs.Prelude.{◌&&◌, cond, [], ℕ, replicate}
use Rattle.record.specs.Record.{Record}
use Rattle.record_rows.specs.grounds.Ground.{Rows}
use Rattle.record_tables.specs.Table.{empty_tables}
use Rattle.voting_proposals.specs.Propose as proposal
use Rattle.voting_proposals.specs.Propose.{propose_fault, new_proposal}
use Rattle.log_commands.specs.declared.Proposing.{Proposing}
use Rattle.log_lent.specs.Lent.{Lent, is_lent}

-- from the tables of a record and of the old proposal, into tables of n and m places
abbrev pub tables_with : Rows → Rows → Rows → Rows → ℕ → ℕ → proposal.LentToPropose
tables_with edits constraints old_edits old_constraints n m = record {
  edits = edits;
  constraints = constraints;
  old_edits = old_edits;
  old_constraints = old_constraints;
  new_edits = replicate n [];
  new_constraints = replicate m [];
}

-- what a line asks for
abbrev pub tables_of : Lent → Proposing → proposal.LentToPropose
tables_of L asked = tables_with (L.edits asked.lent) (L.constraints asked.lent) (L.edits asked.old) (L.constraints asked.old) asked.edits asked.rules

-- the number of the refusal
unfoldable pub lent_proposal_fault : Lent → Proposing → ℕ
lent_proposal_fault L asked = cond (is_lent asked.lent && is_lent asked.old) (propose_fault (tables_of L asked)) 2

-- the new proposal; the empty record where it is refused
unfoldable pub proposal_made : Lent → Proposing → Record
proposal_made L asked = cond (is_lent asked.lent && is_lent asked.old) (new_proposal (tables_of L asked)) empty_tables

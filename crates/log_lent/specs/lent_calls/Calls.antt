-- Calls whose records, roll and row are what the lines of a call log lend. Assumes nothing.
use Rattle.std.specs.Prelude.{Bool, not, ◌&&◌, cond, map, ℕ, ltb, Option, is_none}
use Rattle.lists.specs.Lists.{mem}
use Rattle.record.specs.Record.{Record, written}
use Rattle.record.specs.Stored.{edit_named}
use Rattle.record_rows.specs.row.Row.{is_name, edit_row}
use Rattle.record_rows.specs.grounds.Ground.{◌given◌, ◌orelse◌}
use Rattle.voting_roll.specs.Election.{Proposals, benches}
use Rattle.voting_count.specs.Count.{lent_proposals}
use Rattle.voting_bundles.specs.Bundles.{BundleAnswer, bundle_answer, refused_bundle}
use Rattle.record.specs.Judgement.{sound_row}
use Rattle.record_tables.specs.Table.{decoded}
use Rattle.judgement.specs.lent_record.Lent.{record_fault}
use Rattle.judgement.specs.lent_edit.Asked.{lent_edit_fault}
use Rattle.reasons.specs.Reasons.{Reason}
use Rattle.reasons.specs.Given.{reason_of}
use Rattle.suggestions.specs.declared.Suggested.{Suggested}
use Rattle.suggestions.specs.Suggest.{pair_fault, suggested_rules}
use Rattle.log_commands.specs.declared.Suggesting.{Suggesting}
use Rattle.log_lent.specs.Lent.{Lent, is_lent}

-- the eight proposals are records 1 to 8
abbrev pub proposals_of : Lent → Proposals
proposals_of L = lent_proposals (map L.edits benches) (map L.constraints benches)

-- the bundle of an edit in record k
unfoldable pub bundle_in : Lent → ℕ → ℕ → BundleAnswer
bundle_in L k e = cond (is_lent k) (bundle_answer (L.edits k) (L.constraints k) e) (refused_bundle 2)

-- is the row a sound schedule of record k: the number of its refusal, and the answer
unfoldable pub lent_row_fault : Lent → ℕ → ℕ
lent_row_fault L k = cond (is_lent k) (record_fault (L.edits k) (L.constraints k)) 2

unfoldable pub row_sound : Lent → ℕ → Bool
row_sound L k = sound_row (decoded (L.edits k) (L.constraints k)) L.row

-- why an edit of record k must stand, or can never stand, where it is one of these: the number of the refusal, and the reason
unfoldable pub reason_in : Lent → ℕ → ℕ → Option Reason
reason_in L k e = reason_of (decoded (L.edits k) (L.constraints k)) e

unfoldable pub why_fault : Lent → ℕ → ℕ → ℕ
why_fault L k e = 2 given not (is_lent k) orelse lent_edit_fault (L.edits k) (L.constraints k) e orelse 15 given is_none (reason_in L k e)

-- what two edits of a record suggest; case 0: the second after the first by one author, 1: concurrent
unfoldable pub suggest_fault : Record → Suggesting → ℕ
suggest_fault R asked =
    2 given not (is_name asked.first && (is_name asked.second && ltb asked.case 2)) orelse 5 given not (mem asked.first (written R) && mem asked.second (written R))

-- the number of the refusal, and the rows that are suggested
unfoldable pub suggestion_fault : Record → Suggesting → ℕ
suggestion_fault R asked = suggest_fault R asked orelse pair_fault (edit_row (edit_named R.edits asked.first)) (edit_row (edit_named R.edits asked.second)) asked.case

unfoldable pub suggested_rules_in : Record → Suggesting → Suggested
suggested_rules_in R asked = suggested_rules (edit_row (edit_named R.edits asked.first)) (edit_row (edit_named R.edits asked.second)) asked.case

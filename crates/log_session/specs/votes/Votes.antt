-- The lines of a call log about votes, proposals, suggestions, the test of a row and reasons, each with its effect. Assumes nothing.
use Rattle.std.specs.Prelude.{Bool, cond, ◌&&◌, List, [], ◌∷◌, ◌++◌, map, ℕ, eqb, length}
use Rattle.record.specs.declared.Record as declared
use Rattle.record.specs.Stored.{stored, record_of}
use Rattle.record.specs.Judgement.{must, never}
use Rattle.record_rows.specs.row.Row.{Row}
use Rattle.voting.specs.Tally.{Election}
use Rattle.voting_roll.specs.Election.{election_of}
use Rattle.voting_count.specs.Count.{Count, count_of}
use Rattle.voting_count.specs.Tallied.{tallied_of}
use Rattle.voting_bundles.specs.Bundles.{BundleAnswer}
use Rattle.suggestions.specs.declared.Suggested.{Suggested}
use Rattle.suggestions.specs.Suggest.{rules_of}
use Rattle.text_lines.specs.Line.{constraint_line}
use Rattle.text_reasons.specs.ReasonLine.{line_if_given}
use Rattle.log_forms.specs.Printed.{Texts, texts_from}
use Rattle.log_answers.specs.Answers.{answer_line, bit, stored_text, record_text}
use Rattle.log_commands.specs.declared.Proposing.{Proposing}
use Rattle.log_commands.specs.declared.Vote.{Vote}
use Rattle.log_commands.specs.declared.Vote.TheVariants.{Elect, Bundle, Suggest, Test, Winner, Tally, Why}
use Rattle.log_lent.specs.Lent.{with_record}
use Rattle.log_lent.specs.lent_calls.Calls.{proposals_of, bundle_in, lent_row_fault, row_sound, reason_in, why_fault, suggestion_fault, suggested_rules_in}
use Rattle.log_lent.specs.lent_proposals.Made.{lent_proposal_fault, proposal_made}
use Rattle.log_session.specs.Desk.{Desk, Effect, ledger_of, tells}

unfoldable pub election_line : Election → Texts
election_line E = answer_line "won=? greatest=# silent=# total=#\n" (bit E.won ∷ E.greatest ∷ E.silent ∷ E.total ∷ [])

unfoldable pub bundle_text : BundleAnswer → Texts
bundle_text b =
    answer_line "eligible=? edits=# rules=#\n" (bit b.eligible ∷ b.bundle.edit_count ∷ b.bundle.constraint_count ∷ []) ++ (stored_text b.bundle ∷ [])

-- THE EFFECT of a line that makes a proposal: kept, an accepted one takes the place of the old one
unfoldable pub proposal_effect : Desk → Proposing → Effect
proposal_effect D w =
    let n = lent_proposal_fault D.lent w in
    let P = proposal_made D.lent w in
    record {
      number = n;
      after = record { calls = D.calls; lent = cond (eqb n 0 && w.keep) (with_record D.lent w.old P) D.lent };
      text = record_text (stored P);
    }

-- a suggested constraint is a line of the exchanged text
abbrev pub rule_line : Row → Texts
rule_line row = constraint_line row ∷ []

unfoldable pub suggestion_text : Suggested → Texts
suggestion_text s = answer_line "rules=#\n" (length (rules_of s) ∷ []) ++ map constraint_line (rules_of s)

unfoldable pub test_line : Bool → Texts
test_line sound = answer_line "sound=?\n" (bit sound ∷ [])

-- whether an edit must stand in a won bundle, read as a record of its own, and whether it can never; the bundle's counts and its text
unfoldable pub won_text : ℕ → declared.Record → Texts
won_text edit b =
    let R = record_of b in
    answer_line "edit=@ must=? never=? edits=# rules=#\n" (edit ∷ bit (must R edit) ∷ bit (never R edit) ∷ b.edit_count ∷ b.constraint_count ∷ [])
    ++ (stored_text b ∷ [])

-- an open election has nothing more to tell
unfoldable pub winner_text : ℕ → Count → Texts
winner_text edit c = election_line c.election ++ cond c.election.won (won_text edit c.bundle) []

-- the election's answers on the rows so far, a line each
unfoldable pub tally_text : List Election → Texts
tally_text answers = texts_from (λ i E. election_line E) 0 answers

-- THE EFFECT of a line about votes
unfoldable pub vote_effect : Desk → Vote → Effect
vote_effect D (Elect edit) = let E = election_of edit (proposals_of D.lent) D.lent.roll in tells D E.number (election_line E)
vote_effect D (Bundle edit k) = let b = bundle_in D.lent k edit in tells D b.number (bundle_text b)
vote_effect D (Suggest w) =
    let R = (ledger_of D).multilog in
    tells D (suggestion_fault R w) (suggestion_text (suggested_rules_in R w))
vote_effect D (Test k) = tells D (lent_row_fault D.lent k) (test_line (row_sound D.lent k))
vote_effect D (Winner edit) = let c = count_of edit (proposals_of D.lent) D.lent.roll in tells D c.election.number (winner_text edit c)
vote_effect D (Tally edit) = let t = tallied_of edit (proposals_of D.lent) D.lent.roll in tells D t.number (tally_text t.answers)
vote_effect D (Why edit k) = tells D (why_fault D.lent k edit) (line_if_given edit (reason_in D.lent k edit) ∷ [])

-- Document 01, "Proposals and votes" and "What is turned away": how the parts of a bundle are stored, and the answer about an edit's bundle in a lent record. Assumes nothing.
use Rattle.std.specs.Prelude.{Bool, false, cond, ℕ, eqb, Result, Ok, Err}
use Rattle.record.specs.declared.Record as declared
use Rattle.record.specs.Stored.{stored, empty_record}
use Rattle.record_rows.specs.grounds.Ground.{Rows}
use Rattle.record_tables.specs.Table.{decoded}
use Rattle.judgement.specs.lent_edit.Asked.{lent_edit_fault}
use Rattle.refusals.specs.declared.Refusal.{Refusal}
use Rattle.refusals.specs.Numbers.{number}
use Rattle.voting.specs.Bundle.{bundle, eligible}
use Rattle.voting_bundles.specs.declared.Bundled.{Bundled}

-- The answer about a bundle in numbers: on refusal every part but the number is 0, and the bundle the empty record.
pub record BundleAnswer : Type 0 where
  pub number : ℕ
  pub eligible : Bool
  pub bundle : declared.Record

abbrev pub refused_bundle : ℕ → BundleAnswer
refused_bundle n = record { number = n; eligible = false; bundle = empty_record }

-- what a bundle or a refusal is in numbers
abbrev pub bundle_told : Result Bundled Refusal → BundleAnswer
bundle_told (Ok b) = record { number = 0; eligible = b.eligible; bundle = b.bundle }
bundle_told (Err refusal) = refused_bundle (number refusal)

-- THE ANSWER about the bundle of e in a lent record
unfoldable pub bundle_answer : Rows → Rows → ℕ → BundleAnswer
bundle_answer edits constraints e =
    let n = lent_edit_fault edits constraints e in
    let R = decoded edits constraints in
    cond (eqb n 0) (record { number = 0; eligible = eligible R e; bundle = stored (bundle R e) }) (refused_bundle n)

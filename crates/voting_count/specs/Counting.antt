-- Inner: the proposals decoded, the faults that come after the roll's, and the count of a roll's rows. Assumes nothing.
use Rattle.std.specs.Prelude.{not, List, map, ℕ}
use Rattle.arrayvec.specs.ArrayVec.{ArrayVec}
use Rattle.lists.specs.Lists.{any, all, mem}
use Rattle.record.specs.declared.Record as declared
use Rattle.record.specs.Record.{written}
use Rattle.record.specs.Stored.{stored}
use Rattle.record.specs.Judgement.{sound}
use Rattle.record_rows.specs.row.Row.{is_name}
use Rattle.record_rows.specs.grounds.Ground.{◌given◌, ◌orelse◌}
use Rattle.voting.specs.declared.ElectionResult.{ElectionResult}
use Rattle.voting.specs.declared.RollRow.{RollRow}
use Rattle.voting.specs.Tally.{winner}
use Rattle.voting_roll.specs.Election.{Proposals, held, benches, cast}
use Rattle.voting_tally.specs.declared.Tally.{Tally}
use Rattle.voting_tally.specs.Groups.{result_of, tally_of, held_bundle}
use Rattle.voting_count.specs.declared.CountedRoll.{CountedRoll}
use Rattle.voting_count.specs.Tallied.{beginnings}

-- the eight proposals as records, by bench
unfoldable pub decoded_proposals : Proposals → List declared.Record
decoded_proposals P = map (λ k. stored (held P k)) benches

-- the faults of the name, and with them those of the whole call
unfoldable pub known_name_fault : ℕ → Proposals → ℕ
known_name_fault e P = 2 given not (is_name e) orelse 5 given not (any (λ k. mem e (written (held P k))) benches)

unfoldable pub whole_fault : ℕ → Proposals → ℕ
whole_fault e P = known_name_fault e P orelse 8 given not (all (λ k. sound (held P k)) benches)

-- the tally of the rows, and what the election comes to on each beginning of them
pub record Counting : Type 0 where
  pub tally : Tally
  pub answers : ArrayVec ElectionResult

abbrev pub counting_of : ℕ → Proposals → List RollRow → Counting
counting_of e P rows = record {
  tally = tally_of (cast e P rows);
  answers = record { items = map (λ b. result_of (cast e P b)) (beginnings rows) };
}

-- the same with the election and the won bundle in place of the tally
abbrev pub counted_roll_of : ℕ → Proposals → List RollRow → CountedRoll
counted_roll_of e P rows = record {
  counted = record { election = (counting_of e P rows).tally.election; bundle = held_bundle (winner (cast e P rows)) };
  answers = (counting_of e P rows).answers;
}

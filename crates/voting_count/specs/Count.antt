-- Document 01, "Proposals and votes": the count of an election, with the won bundle as it is stored. Assumes nothing.
use Rattle.std.specs.Prelude.{◌≡◌, cond, List, map, ℕ, eqb, Result, Ok, Err, unwrap_or}
use Rattle.record.specs.declared.Record as declared
use Rattle.record.specs.Stored.{empty_record}
use Rattle.record_rows.specs.declared.row.LentRecord.{LentRecord}
use Rattle.record_rows.specs.grounds.Ground.{Rows}
use Rattle.refusals.specs.declared.Refusal.{Refusal}
use Rattle.refusals.specs.Numbers.{number}
use Rattle.voting.specs.declared.RollRow.{RollRow}
use Rattle.voting.specs.Bundle.{vote}
use Rattle.voting.specs.Tally.{Ballot, winner, Election, election_told}
use Rattle.voting_tally.specs.Groups.{winner_stored}
use Rattle.voting_roll.specs.Election.{Proposals, held, proposal_fault, first_given, benches, election_fault, cast, refused_election, election_of}
use Rattle.voting_count.specs.declared.Counted.{Counted}

-- the proposals as eight records are lent
abbrev pub lent : List LentRecord → Proposals
lent l = record { edits = map (λ x. x.edits.now) l; constraints = map (λ x. x.constraints.now) l }

abbrev pub lent_proposals : List Rows → List Rows → Proposals
lent_proposals edits constraints = record { edits = edits; constraints = constraints }

-- no row of the proposals has a fault
abbrev pub Faultless : Proposals → Type 0
Faultless P = first_given (proposal_fault P) benches ≡ 0

-- the ballot of a row of the roll
abbrev pub ballot_of : ℕ → Proposals → RollRow → Ballot
ballot_of e P row = record { weight = row.weight; vote = vote (held P row.bench) e }

-- The answer of a count in numbers: the election's, and the won bundle; the empty record where there is none.
pub record Count : Type 0 where
  pub election : Election
  pub bundle : declared.Record

abbrev pub refused_count : ℕ → Count
refused_count n = record { election = refused_election n; bundle = empty_record }

-- what a count or a refusal is in numbers
abbrev pub count_told : Result Counted Refusal → Count
count_told (Ok c) = record { election = election_told (Ok c.election); bundle = unwrap_or c.bundle empty_record }
count_told (Err refusal) = refused_count (number refusal)

-- THE COUNT of an election on e
unfoldable pub count_of : ℕ → Proposals → List RollRow → Count
count_of e P roll =
    record {
      election = election_of e P roll;
      bundle = cond (eqb (election_fault e P roll) 0) (winner_stored (winner (cast e P roll))) empty_record;
    }

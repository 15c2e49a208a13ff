-- Document 01, "Proposals and votes" and "What is turned away": the election on an edit over eight lent proposals and a roll. Assumes nothing.
use Rattle.std.specs.Prelude.{false, not, cond, List, [], ◌∷◌, ℕ, ◌-◌, eqb, get_or}
use Rattle.lists.specs.Lists.{any, all, mem}
use Rattle.record.specs.Record.{Record, written}
use Rattle.record.specs.Judgement.{sound}
use Rattle.record_rows.specs.row.Row.{is_name}
use Rattle.record_rows.specs.grounds.Ground.{Rows, ◌given◌, ◌orelse◌}
use Rattle.record_tables.specs.Table.{empty_tables, decoded, lent_fault}
use Rattle.voting.specs.declared.RollRow.{RollRow}
use Rattle.voting.specs.Tally.{Ballot, ballots, Election}
pub use Rattle.voting.specs.Tally.{counted}
use Rattle.voting_roll.specs.Roll.{roll_faulty}

-- The eight proposals as they are lent, an empty one for a bench that has none: the edit tables and the constraint tables, by bench.
pub record Proposals : Type 0 where
  pub edits : List Rows
  pub constraints : List Rows

abbrev pub benches : List ℕ
benches = 1 ∷ 2 ∷ 3 ∷ 4 ∷ 5 ∷ 6 ∷ 7 ∷ 8 ∷ []

-- bench k's proposal
unfoldable pub held : Proposals → ℕ → Record
held P k = decoded (get_or P.edits (k - 1) []) (get_or P.constraints (k - 1) [])

-- the rows of the proposals, by bench
unfoldable pub proposal_fault : Proposals → ℕ → ℕ
proposal_fault P k = lent_fault empty_tables (get_or P.edits (k - 1) []) (get_or P.constraints (k - 1) [])

unfoldable pub first_given : (ℕ → ℕ) → List ℕ → ℕ
first_given f [] = 0
first_given f (k ∷ l) = f k orelse first_given f l

-- the number of the refusal: rows of the proposals, the roll, then the faults of the whole call
unfoldable pub election_fault : ℕ → Proposals → List RollRow → ℕ
election_fault e P roll =
    first_given (proposal_fault P) benches
    orelse 14 given roll_faulty roll
    orelse 2 given not (is_name e)
    orelse 5 given not (any (λ k. mem e (written (held P k))) benches)
    orelse 8 given not (all (λ k. sound (held P k)) benches)

unfoldable pub cast : ℕ → Proposals → List RollRow → List Ballot
cast e P roll = ballots (held P) e roll

abbrev pub refused_election : ℕ → Election
refused_election n = record { number = n; won = false; greatest = 0; silent = 0; total = 0 }

-- THE ANSWER of an election
unfoldable pub election_of : ℕ → Proposals → List RollRow → Election
election_of e P roll = let n = election_fault e P roll in cond (eqb n 0) (counted (cast e P roll)) (refused_election n)

-- Document 02, A8, of elections as they are counted: on one roll, over eight lent proposals. Assumes nothing.
use Rattle.std.specs.Prelude.{cond, List, [], ◌∷◌, ℕ}
use Rattle.record.specs.Record.{Record}
use Rattle.record.specs.Stored.{record_of}
use Rattle.lists.specs.Lists.{Has}
use Rattle.voting.specs.declared.RollRow.{RollRow}
use Rattle.voting_roll.specs.Election.{Proposals, held}
use Rattle.voting_count.specs.Count.{count_of}
use Rattle.voting_mergeability.specs.Mergeability.{Chosen}

pub record CountedElection : Type 0 where
  pub edit : ℕ
  pub proposals : Proposals

-- each is lent an older or a newer proposal of every voter
abbrev pub EachLent : List RollRow → (ℕ → List Record) → List CountedElection → Type 0
EachLent roll sent l = (x : CountedElection) → Has x l → Chosen roll sent (held x.proposals)

-- the bundles of the counts that are won; a refused count and an open election give none
unfoldable pub counted_in : List RollRow → List CountedElection → List Record
counted_in roll [] = []
counted_in roll (x ∷ l) =
    let rest = counted_in roll l in
    let count = count_of x.edit x.proposals roll in
    cond count.election.won (record_of count.bundle ∷ rest) rest

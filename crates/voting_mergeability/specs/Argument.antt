-- Inner: what the argument for mergeability speaks of: prefixes of sound records, votes, and the voter and the proposal that two won elections have in
-- common. Assumes nothing.
use Rattle.std.specs.Prelude.{◌≡◌, Bool, true, cond, List, [], ◌∷◌, ℕ, ◌+◌, ◌<◌}
use Rattle.std.proofs.Math.Option.{some}
use Rattle.lists.specs.Lists.{◌among◌, Has}
use Rattle.record.specs.Record.{Record, written, has, WellFormed, Extends}
use Rattle.record.specs.Judgement.{sound, settled}
use Rattle.voting.specs.declared.RollRow.{RollRow}
use Rattle.voting.specs.Bundle.{bundle, eligible, vote}
use Rattle.voting_mergeability.specs.Mergeability.{Voter, SoundTables, OneBody, HeldElection}

-- S is a prefix of R: contained in it, and closed to the left for notafter (0) and enables (1): what leads in R to an edit of S is in S. Of 000's
-- well-formed prefix (definition 2) the parts (i) and (iii).
pub record Prefix (S R : Record) : Type 0 where
  pub contained : Extends S R
  pub closed : (a k b : ℕ) → k < 2 → b among written S → has a k b R.constraints ≡ true → has a k b S.constraints ≡ true

-- S and T are prefixes of one sound record.
pub record Compatible (S T : Record) : Type 0 where
  pub whole : Record
  pub formed : WellFormed whole
  pub whole-sound : sound whole ≡ true
  pub first : Prefix S whole
  pub second : Prefix T whole

-- Well-formed records with settled edits, compatible two by two, and a record with no constraints but theirs.
pub record Family (I : Type 0) (S : I → Record) (U : Record) : Type 0 where
  pub formed : (i : I) → WellFormed (S i)
  pub settles : (i : I) (x : ℕ) → x among written (S i) → settled (S i) x ≡ true
  pub compatible : (i j : I) → Compatible (S i) (S j)
  pub union-formed : WellFormed U
  pub from : (a k b : ℕ) → has a k b U.constraints ≡ true → (i : I) × (has a k b (S i).constraints ≡ true)

-- What a vote that is not silent says.
pub record IsVote (P : Record) (e : ℕ) (B : Record) : Type 0 where
  pub known : e among written P
  pub eligible-there : eligible P e ≡ true
  pub is : bundle P e ≡ B

-- the weight of the rows of a roll that pass a test, and of all
unfoldable pub weighed : (RollRow → Bool) → List RollRow → ℕ
weighed p [] = 0
weighed p (row ∷ l) = cond (p row) row.weight 0 + weighed p l

abbrev pub whole_weight : List RollRow → ℕ
whole_weight roll = weighed (λ row. true) roll

-- a row of positive weight that passes both tests
abbrev pub CommonRow : (RollRow → Bool) → (RollRow → Bool) → List RollRow → Type 0
CommonRow p q roll = (row : RollRow) × Has row roll × (0 < row.weight) × (p row ≡ true) × (q row ≡ true)

-- A voter whose votes won in both elections.
pub record CommonVoter (roll : List RollRow) (x y : HeldElection) (A B : Record) : Type 0 where
  pub bench : ℕ
  pub voter : Voter roll bench
  pub first : vote (x.held bench) x.edit ≡ some A
  pub second : vote (y.held bench) y.edit ≡ some B

-- Two bundles that are votes of one sound proposal of a voter.
pub record CommonProposal (e f : ℕ) (A B : Record) : Type 0 where
  pub proposal : Record
  pub sound-there : SoundTables proposal
  pub one-body : OneBody proposal proposal
  pub first : IsVote proposal e A
  pub second : IsVote proposal f B

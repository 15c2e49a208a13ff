-- Document 02, A8: elections over time. What is promised of them is 000's mergeability, a safety property: the union of all that is elected is sound.
-- Over records without limits. Assumes nothing.
use Rattle.std.specs.Prelude.{◌≡◌, ◌↔◌, List, [], ◌∷◌, ℕ, ◌<◌}
use Rattle.std.proofs.Math.Option.{Option, none, some}
use Rattle.record.specs.declared.Edit.{Edit}
use Rattle.record.specs.declared.Constraint.{Constraint}
use Rattle.lists.specs.Lists.{◌among◌, Has}
use Rattle.record.specs.Record.{Record, written, WellFormed}
use Rattle.record.specs.Sound.{SoundRecord, Must, Never}
use Rattle.lists.specs.Keyed.{Ascending}
use Rattle.record_tables.specs.Table.{edit_key, constraint_key, empty_tables, unite}
use Rattle.voting.specs.declared.RollRow.{RollRow}
use Rattle.voting.specs.Tally.{ballots, winner}
use Rattle.voting.specs.Proposal.{Keeps}

-- A voter: a bench that is on the roll with a weight above 0. 000's proposer.
pub record Voter (roll : List RollRow) (bench : ℕ) : Type 0 where
  pub row : RollRow
  pub listed : Has row roll
  pub own : row.bench ≡ bench
  pub weighs : 0 < row.weight

-- A record is sound: its tables are well formed, and it has a sound schedule.
pub record SoundTables (R : Record) : Type 0 where
  pub formed : WellFormed R
  pub has-schedule : SoundRecord R

-- Edits with one name have one body.
unfoldable pub OneBody : Record → Record → Type 0
OneBody P Q = (d e : Edit) → Has d P.edits → Has e Q.edits → d.name ≡ e.name → d.body ≡ e.body

-- a row of proposals, the oldest first: each is kept by the next
abbrev pub KeptRow : List Record → Type 0
KeptRow [] = Unit
KeptRow (P ∷ []) = Unit
KeptRow (P ∷ Q ∷ l) = Keeps P Q × KeptRow (Q ∷ l)

-- Bench k sends the row `sent k`. Of a bench that is no voter nothing is asked.
module _ (roll : List RollRow) (sent : ℕ → List Record) where
  abbrev pub EachSound : Type 0
  EachSound = (k : ℕ) → Voter roll k → (P : Record) → Has P (sent k) → SoundTables P

  abbrev pub EachKept : Type 0
  EachKept = (k : ℕ) → Voter roll k → KeptRow (sent k)

  -- in all the proposals of all voters
  abbrev pub EachOneBody : Type 0
  EachOneBody = (j k : ℕ) → Voter roll j → Voter roll k → (P Q : Record) → Has P (sent j) → Has Q (sent k) → OneBody P Q

  -- THE PREMISES
  pub record Sending : Type 0 where
    pub each-sound : EachSound
    pub each-kept : EachKept
    pub each-one-body : EachOneBody

-- An election: the edit that is voted on, and the proposal that is held of each bench.
pub record HeldElection : Type 0 where
  pub edit : ℕ
  pub held : ℕ → Record

-- Of each voter an older or a newer proposal of its row is held, or the empty one as long as none has come.
unfoldable pub Chosen : List RollRow → (ℕ → List Record) → (ℕ → Record) → Type 0
Chosen roll sent held = (k : ℕ) → Voter roll k → Has (held k) (empty_tables ∷ sent k)

abbrev pub EachChosen : List RollRow → (ℕ → List Record) → List HeldElection → Type 0
EachChosen roll sent l = (x : HeldElection) → Has x l → Chosen roll sent x.held

-- the won bundle, none if the election is open
abbrev pub won_bundle : List RollRow → HeldElection → Option Record
won_bundle roll x = winner (ballots x.held x.edit roll)

-- B is won in an election over such a choice.
pub record Won (roll : List RollRow) (sent : ℕ → List Record) (B : Record) : Type 0 where
  pub election : HeldElection
  pub choice : Chosen roll sent election.held
  pub winning : won_bundle roll election ≡ some B

-- the bundles that are won in a list of elections, by whatever rule
unfoldable pub won_by : (HeldElection → Option Record) → List HeldElection → List Record
won_by rule [] = []
won_by rule (x ∷ l) = let rest = won_by rule l in elim (rule x) [ none ↦ rest | some B ↦ B ∷ rest ]

-- by document 01's rule, on one roll
abbrev pub won_in : List RollRow → List HeldElection → List Record
won_in roll l = won_by (won_bundle roll) l

-- U is the union of some records: it has just their edits, with the bodies, and just their constraints.
pub record UnionOf (l : List Record) (U : Record) : Type 0 where
  pub edits : (e : Edit) → Has e U.edits ↔ ((B : Record) × Has B l × Has e B.edits)
  pub constraints : (c : Constraint) → Has c U.constraints ↔ ((B : Record) × Has B l × Has c B.constraints)

-- THE PROMISE of won bundles: united they are a sound record with one body to a name, and no edit of one can never stand there and must stand in
-- another.
pub record Mergeable (won : List Record) : Type 0 where
  pub union : (U : Record) → UnionOf won U → SoundTables U × OneBody U U
  pub no-rivals : (A B : Record) → Has A won → Has B won → (x : ℕ) → x among written A → Never A x → Must B x → ⊥

-- the product's own union, of one record after the other
unfoldable pub unite_all : Record → List Record → Record
unite_all R [] = R
unite_all R (B ∷ l) = unite_all (unite R B) l

-- THE PROMISE of the product's own union: it is their union, it is sound with one body to a name, and its tables ascend.
pub record Merged (won : List Record) : Type 0 where
  pub unites : UnionOf won (unite_all empty_tables won)
  pub sound : SoundTables (unite_all empty_tables won)
  pub one-body : OneBody (unite_all empty_tables won) (unite_all empty_tables won)
  pub edits-ascend : Ascending edit_key (unite_all empty_tables won).edits
  pub constraints-ascend : Ascending constraint_key (unite_all empty_tables won).constraints

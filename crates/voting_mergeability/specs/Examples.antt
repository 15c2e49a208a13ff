-- Document 02, A8: one example of elections over older and newer proposals, and the promise with a premise missing, which is false. Assumes nothing.
use Rattle.std.specs.Prelude.{◌≡◌, Bool, true, false, cond, List, [], ◌∷◌, ◌++◌, ℕ, ◌*◌, eqb, leb}
use Rattle.std.proofs.Math.Option.{Option, none}
use Rattle.record.specs.declared.Body.TheVariants.{Insert, Remove}
use Rattle.record.specs.declared.Edit.{Edit}
use Rattle.record.specs.declared.Constraint.{Constraint}
use Rattle.record.specs.Record.{Record}
use Rattle.record.specs.Sound.{SoundRecord, Must, Never}
use Rattle.record_tables.specs.Table.{empty_tables}
use Rattle.voting.specs.declared.RollRow.{RollRow}
use Rattle.voting.specs.Tally.{Ballot, ballots, total, group, Election, counted}
use Rattle.voting_mergeability.specs.Mergeability.{EachSound, EachOneBody, Sending, HeldElection, EachChosen, won_by, won_in, unite_all, Mergeable}

abbrev insert : ℕ → ℕ → Edit
insert name place = record { name = name; body = Insert place }

abbrev con : ℕ → ℕ → ℕ → Constraint
con a k b = record { left = a; rule = k; right = b }

abbrev row : ℕ → ℕ → RollRow
row bench weight = record { bench = bench; weight = weight }

-- 257 is required
abbrev pub example_old : Record
example_old = record { edits = insert 257 5 ∷ []; constraints = con 257 1 0 ∷ [] }

-- besides, 258 is aborted; 257 comes before it and enables it
abbrev pub example_new : Record
example_new = record {
  edits = insert 257 5 ∷ insert 258 6 ∷ [];
  constraints = con 257 0 258 ∷ con 257 1 0 ∷ con 257 1 258 ∷ con 258 0 258 ∷ [];
}

-- both are required, 258 first
abbrev pub bad : Record
bad = record { edits = insert 257 5 ∷ insert 258 6 ∷ []; constraints = con 257 1 0 ∷ con 258 0 257 ∷ con 258 1 0 ∷ [] }

-- another body; and required and aborted, so that it is not sound
abbrev pub wild : Record
wild = record { edits = record { name = 257; body = Remove 9 } ∷ []; constraints = con 257 0 257 ∷ con 257 1 0 ∷ [] }

abbrev pub example_roll : List RollRow
example_roll = row 1 3 ∷ row 2 2 ∷ row 3 1 ∷ row 4 0 ∷ []

-- by bench; bench 4, whose weight is 0, does as it likes
abbrev by_bench : {A : Type 0} → A → A → A → A → ℕ → A
by_bench one two three others k = cond (eqb k 1) one (cond (eqb k 2) two (cond (eqb k 3) three others))

abbrev pub sent : ℕ → List Record
sent = by_bench (example_old ∷ example_new ∷ []) (bad ∷ []) (example_new ∷ []) (bad ∷ wild ∷ [])

-- bench 1's proposal is the older or the newer one
abbrev pub holding : Record → ℕ → Record
holding P = by_bench P bad example_new wild

abbrev pub elections : List HeldElection
elections = record { edit = 257; held = holding example_old } ∷ record { edit = 258; held = holding example_old } ∷ record { edit = 258; held = holding example_new } ∷ []

abbrev election_answer : Bool → ℕ → ℕ → Election
election_answer won greatest silent = record { number = 0; won = won; greatest = greatest; silent = silent; total = 6 }

-- The results: the first and the third are won, the second is open. The won bundles united are the newer proposal.
pub record Results : Type 0 where
  pub first : counted (ballots (holding example_old) 257 example_roll) ≡ election_answer true 4 0
  pub second : counted (ballots (holding example_old) 258 example_roll) ≡ election_answer false 2 3
  pub third : counted (ballots (holding example_new) 258 example_roll) ≡ election_answer true 4 0
  pub won-bundles : won_in example_roll elections ≡ example_old ∷ example_new ∷ []
  pub union-is : unite_all empty_tables (example_old ∷ example_new ∷ []) ≡ example_new

-- The example meets the premises, so that the promise says this of it.
pub record Example : Type 0 where
  pub premises : Sending example_roll sent
  pub choices : EachChosen example_roll sent elections
  pub results : Results
  pub mergeable : Mergeable (example_old ∷ example_new ∷ [])

-- The promise without keeping.
abbrev pub WithoutKeeping : Type 0
WithoutKeeping =
    (example_roll : List RollRow) (sent : ℕ → List Record) (l : List HeldElection) → EachSound example_roll sent → EachOneBody example_roll sent → EachChosen example_roll sent l
    → Mergeable (won_in example_roll l)

-- half of the roll's weight wins
unfoldable pub half_winner_of : List Ballot → List Ballot → Option Record
half_winner_of l [] = none
half_winner_of l (b ∷ m) = let r = half_winner_of l m in cond (leb (total l) (2 * group l b.vote)) b.vote r

abbrev pub half_won_bundle : List RollRow → HeldElection → Option Record
half_won_bundle example_roll x = let l = ballots x.held x.edit example_roll in half_winner_of l l

-- The promise where half wins.
abbrev pub WithHalf : Type 0
WithHalf =
    (example_roll : List RollRow) (sent : ℕ → List Record) (l : List HeldElection) → Sending example_roll sent → EachChosen example_roll sent l
    → Mergeable (won_by (half_won_bundle example_roll) l)

-- The promise where some elections are held on one roll, some on another, and the premises hold of both.
abbrev pub WithTwoRolls : Type 0
WithTwoRolls =
    (example_roll other : List RollRow) (sent : ℕ → List Record) (l m : List HeldElection) → Sending example_roll sent → Sending other sent → EachChosen example_roll sent l → EachChosen other sent m
    → Mergeable (won_in example_roll l ++ won_in other m)

-- Each of them is false by two bundles that are won: `old`, and 257 aborted. United they are not sound, and 257 must stand in the one and can never
-- stand in the other.
abbrev pub aborted : Record
aborted = record { edits = insert 257 5 ∷ []; constraints = con 257 0 257 ∷ [] }

pub record Rivals : Type 0 where
  pub unsound : SoundRecord (unite_all empty_tables (example_old ∷ aborted ∷ [])) → ⊥
  pub must-old : Must example_old 257
  pub never-aborted : Never aborted 257
  pub not-mergeable : Mergeable (example_old ∷ aborted ∷ []) → ⊥

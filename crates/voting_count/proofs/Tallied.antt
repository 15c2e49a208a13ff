-- The tally while the rows of the roll come in: before the first and after each it holds the election's answer on the rows so far. Assumes nothing.
use mathlib.Core.Path.{◌≡◌, refl, sym, ap, ◌∙◌}
use mathlib.Core.Bool.{false}
use mathlib.Core.List.{List, [], ◌∷◌, ◌++◌, map, map-map, append-nil, append_assoc}
use Prim.Native.Nat.{ℕ, ◌+◌, ◌≤◌}
use native.Mathlib.Omega.{arith}
use lib.Dec.{eqb}
use lib.ListN.{length, take, drop, get_or, length-map, take-append-drop}
use lib.Seq.{take-take}
use borrow.Author.Tests.{ne_eqb}
use Rattle.std.specs.Prelude.{Ok}
use Rattle.arrayvec.specs.ArrayVec.{ArrayVec}
use Rattle.lists.proofs.Lists.{get_or-mapped}
use Rattle.record_rows.specs.grounds.Ground.{◌given◌}
use Rattle.record_rows.proofs.grounds.Grounds.{orelse-none, given-none}
use Rattle.refusals.specs.Numbers.{number}
use Rattle.voting.specs.declared.ElectionResult.{ElectionResult}
use Rattle.voting.specs.declared.RollRow.{RollRow}
use Rattle.voting.specs.Tally.{Election, election_told, ballots, weigh, is_silent, greatest_of, greatest, silent, total, won}
use Rattle.voting_roll.specs.Roll.{roll_faulty}
use Rattle.voting_roll.specs.Election.{Proposals, proposal_fault, first_given, benches, election_fault, cast, election_of}
use Rattle.voting_roll.proofs.Rolls.{beginning-faultless}
use Rattle.voting_tally.specs.Groups.{result_of, tally_of}
use Rattle.voting_tally.proofs.Counts.{total-more, weigh-more, greatest-more}
use Rattle.voting_count.specs.Count.{ballot_of}
use Rattle.voting_count.specs.Tallied.{beginnings, tallied_told, tallied_of}
use Rattle.voting_count.specs.Counting.{counting_of}
use Rattle.voting_count.proofs.Answers.{election-answered}
use Rattle.voting_count.proofs.Beginnings.{beginnings-length, beginning-at, beginnings-alike}
use Rattle.voting_count.proofs.Rolled.{cast-more}

module _ (e : ℕ) (P : Proposals) (rows : List RollRow) where
  -- of the rows themselves the grounds ask no more than whether they have a fault
  pub grounds-alike : (roll : List RollRow) → roll_faulty rows ≡ roll_faulty roll → election_fault e P rows ≡ election_fault e P roll
  unfolding election_fault
  grounds-alike roll q = rw q refl

  -- an election that is accepted has a roll without fault
  pub accepted-roll : election_fault e P rows ≡ 0 → roll_faulty rows ≡ false
  unfolding election_fault
  accepted-roll z = given-none 13 (roll_faulty rows) (orelse-none (14 given roll_faulty rows) _ (orelse-none (first_given (proposal_fault P) benches) _ z).1).0

  module _ (z : election_fault e P rows ≡ 0) where
    -- where an election is accepted it is so on each beginning of the roll
    pub beginning-accepted : (k : ℕ) → election_fault e P (take k rows) ≡ 0
    beginning-accepted k = let f = accepted-roll z in sym (grounds-alike (take k rows) (f ∙ sym (beginning-faultless rows k f))) ∙ z

    -- THE TALLY SO FAR: after k rows the tally holds the election's answer on these
    pub tally-so-far : (k : ℕ) → election_told (Ok (tally_of (cast e P (take k rows))).election) ≡ election_of e P (take k rows)
    tally-so-far k = election-answered e P (take k rows) (sym (beginning-accepted k)) (tally_of (cast e P (take k rows))) refl

    -- there is an answer before the first row and after each, and no other
    pub tallied-accepted : tallied_of e P rows ≡ record { number = 0; answers = map (election_of e P) (beginnings rows) }
    unfolding tallied_of
    tallied-accepted = rw z refl

    pub tallied-length : length (tallied_of e P rows).answers ≡ length rows + 1
    tallied-length = rw tallied-accepted (length-map (beginnings rows) (election_of e P) ∙ beginnings-length rows ∙ omega arith)

    pub tallied-at : (k : ℕ) (d : Election) → k ≤ length rows → get_or (tallied_of e P rows).answers k d ≡ election_of e P (take k rows)
    tallied-at k d h =
        rw tallied-accepted
        (get_or-mapped (election_of e P) (beginnings rows) k [] d (omega (arith, beginnings-length rows)) ∙ ap (election_of e P) (beginning-at rows k [] h))

    -- what the code holds is that
    pub tallied-answered : (answers : ArrayVec ElectionResult) → answers ≡ (counting_of e P rows).answers → tallied_told (Ok answers) ≡ tallied_of e P rows
    unfolding tally_of
    tallied-answered answers q =
        let told : ElectionResult → Election = λ r. election_told (Ok r) in
        let result : List RollRow → ElectionResult = λ b. result_of (cast e P b) in
        let m : map told answers.items ≡ map (election_of e P) (beginnings rows) =
        ap (λ (a : ArrayVec ElectionResult). map told a.items) q ∙ map-map told result (beginnings rows) ∙ beginnings-alike (λ b. told (result b)) (election_of e P) rows tally-so-far in
        rw tallied-accepted (λ i. record { number = 0; answers = m i })

  pub tallied-refused : (n : ℕ) → n ≡ election_fault e P rows → (n ≡ 0 → ⊥) → record { number = n; answers = [] } ≡ tallied_of e P rows
  unfolding tallied_of
  tallied-refused n q h = let z : eqb (election_fault e P rows) 0 ≡ false = ne_eqb (election_fault e P rows) 0 (λ y. h (q ∙ y)) in rw (z, q) refl

-- GREATEST, SILENT AND TOTAL NEVER FALL while rows come in
module _ (e : ℕ) (P : Proposals) where
  abbrev NoneFalls : List RollRow → List RollRow → Type 0
  NoneFalls rows more = (greatest (cast e P rows) ≤ greatest (cast e P more)) × (silent (cast e P rows) ≤ silent (cast e P more)) × (total (cast e P rows) ≤ total (cast e P more))

  none-falls-at : (rows : List RollRow) (row : RollRow) → NoneFalls rows (rows ++ (row ∷ []))
  unfolding silent
  none-falls-at rows row =
      let l = cast e P rows in
      let b = ballot_of e P row in
      let m = cast-more e P rows row in
      rw m (omega (arith, greatest-more l b.weight b.vote), omega (arith, weigh-more is_silent l b.weight b.vote), omega (arith, total-more l b.weight b.vote))

  none-falls-over : (rows more : List RollRow) → NoneFalls rows (rows ++ more)
  none-falls-over rows [] = rw (append-nil rows) (omega arith, omega arith, omega arith)
  none-falls-over rows (row ∷ more) =
      let a = none-falls-at rows row in
      let b = none-falls-over (rows ++ (row ∷ [])) more in
      rw (← append_assoc rows (row ∷ []) more) (omega (arith, a.0, b.0), omega (arith, a.1, b.1), omega (arith, a.2, b.2))

  none-falls-between : (rows : List RollRow) (j k : ℕ) → j ≤ k → NoneFalls (take j rows) (take k rows)
  none-falls-between rows j k h = rw (take-append-drop j (take k rows), take-take j k rows h) at (none-falls-over (take j (take k rows)) (drop j (take k rows)))

  pub none-falls : (rows : List RollRow) → election_fault e P rows ≡ 0 → (j k : ℕ) → j ≤ k
      → let E = election_of e P (take j rows) in let F = election_of e P (take k rows) in (E.greatest ≤ F.greatest) × (E.silent ≤ F.silent) × (E.total ≤ F.total)
  unfolding election_of
  none-falls rows z j k h = rw (beginning-accepted e P rows z j, beginning-accepted e P rows z k) (none-falls-between rows j k h)

-- BEFORE THE FIRST ROW the election is open, and all its weights are 0
pub before-first-row : (e : ℕ) (P : Proposals) → election_fault e P [] ≡ 0 → election_of e P [] ≡ record { number = 0; won = false; greatest = 0; silent = 0; total = 0 }
unfolding election_of cast ballots greatest greatest_of silent weigh total won
before-first-row e P z = rw z refl

-- Document 02, A8, of counted elections: a count that is won has the won bundle, so what is promised of elections is promised of counts. Assumes nothing.
use mathlib.Core.Path.{◌≡◌, refl, sym, ap, ◌∙◌}
use mathlib.Core.Bool.{true}
use mathlib.Core.Logic.{inl, inr}
use mathlib.Core.List.{List, [], ◌∷◌}
use mathlib.Core.Option.{Option, none, some}
use Prim.Native.Nat.{ℕ}
use lib.Dec.{eqb}
use Rattle.record.specs.Record.{Record}
use Rattle.record.specs.Stored.{record_of}
use Rattle.lists.proofs.Lists.{by, clash}
use Rattle.lists.specs.Lists.{Has}
use Rattle.record_tables.proofs.Tables.{stored_back}
use Rattle.voting.specs.declared.RollRow.{RollRow}
use Rattle.voting.specs.Tally.{won, winner}
use Rattle.voting.proofs.Elections.{open_is}
use Rattle.voting_roll.specs.Election.{Proposals, held, election_fault, cast, election_of}
use Rattle.voting_count.specs.Count.{count_of}
use Rattle.voting_mergeability.specs.Mergeability.{Sending, Won, Mergeable, Merged}
use Rattle.voting_mergeability.specs.Counted.{CountedElection, EachLent, counted_in}
use Rattle.voting_mergeability.proofs.Mergeability.{won-mergeable, won-merged}

-- the bundle of a count that is won
won-count : (e : ℕ) (P : Proposals) (roll : List RollRow) → (count_of e P roll).election.won ≡ true
    → winner (cast e P roll) ≡ some (record_of (count_of e P roll).bundle)
unfolding count_of election_of
won-count e P roll h =
    by (eqb (election_fault e P roll) 0)
    (λ z. go z (winner (cast e P roll)) refl (rw z at h))
    (λ z. clash (rw z at h) refl)
  where
    go : eqb (election_fault e P roll) 0 ≡ true → (end : Option Record) → winner (cast e P roll) ≡ end → won (cast e P roll) ≡ true
        → winner (cast e P roll) ≡ some (record_of (count_of e P roll).bundle)
    go z none p w = clash w (open_is (cast e P roll) p)
    go z (some B) p w = rw (z, p) (ap some (sym (stored_back B)))

module _ {roll : List RollRow} {sent : ℕ → List Record} (T : Sending roll sent) where
  counted-by : (l : List CountedElection) → EachLent roll sent l → (B : Record) → Has B (counted_in roll l) → Won roll sent B
  unfolding counted_in cast
  counted-by [] c B h = absurd h
  counted-by (x ∷ l) c B h =
      let later = counted-by l (λ y m. c y (inr m)) B in
      by (count_of x.edit x.proposals roll).election.won
      (λ w. let i : Has B (record_of (count_of x.edit x.proposals roll).bundle ∷ counted_in roll l) = rw w at h in
      elim i [
        | inl q ↦ record { election = record { edit = x.edit; held = held x.proposals }; choice = c x (inl refl); winning = won-count x.edit x.proposals roll w ∙ ap some (sym q) }
        | inr m ↦ later m
      ])
      (λ w. later (rw w at h))

  -- A8 of counts, over whatever older and newer proposals are lent.
  pub counted-mergeability : (l : List CountedElection) → EachLent roll sent l → Mergeable (counted_in roll l)
  counted-mergeability l c = won-mergeable T (counted_in roll l) (counted-by l c)

  pub counted-united : (l : List CountedElection) → EachLent roll sent l → Merged (counted_in roll l)
  counted-united l c = won-merged T (counted_in roll l) (counted-by l c)

-- A count gives a bundle just where its election is won. Assumes nothing.
use mathlib.Core.Path.{◌≡◌, refl, sym, ap, ◌∙◌}
use mathlib.Core.Bool.{true}
use mathlib.Core.Option.{Option, none, some}
use mathlib.Core.List.{List}
use Prim.Native.Nat.{ℕ}
use lib.Dec.{eqb}
use borrow.Author.Tests.{eq-eqb}
use Rattle.std.specs.Prelude.{Result, Ok, Err, IfOk, is_some}
use Rattle.refusals.specs.declared.Refusal.{Refusal}
use Rattle.lists.proofs.Lists.{by, clash}
use Rattle.record.specs.Record.{Record}
use Rattle.voting.specs.declared.RollRow.{RollRow}
use Rattle.voting.specs.Tally.{won, winner}
use Rattle.voting.proofs.Elections.{winner-wins, open_is}
use Rattle.voting_tally.specs.Groups.{held_bundle}
use Rattle.voting_roll.specs.Election.{Proposals, election_fault, cast, election_of}
use Rattle.voting_count.specs.declared.Counted.{Counted}
use Rattle.voting_count.specs.Count.{Count, count_told, count_of}

module _ (e : ℕ) (P : Proposals) (roll : List RollRow) (c : Counted) (q : count_told (Ok c) ≡ count_of e P roll) where
  counted-faultless : eqb (election_fault e P roll) 0 ≡ true
  unfolding count_of election_of
  counted-faultless =
      by (eqb (election_fault e P roll) 0) (λ z. z)
      (λ z.
      let n : ◌≡◌ {A = ℕ} 0 (election_fault e P roll) = rw z at (ap (λ (n : Count). n.election.number) q) in
      clash (eq-eqb (election_fault e P roll) 0 (sym n)) z)

  counted-won : c.election.won ≡ won (cast e P roll)
  unfolding count_of election_of
  counted-won = let w : c.election.won ≡ (count_of e P roll).election.won = ap (λ (n : Count). n.election.won) q in rw counted-faultless at w

  bundle-where-won : c.bundle ≡ held_bundle (winner (cast e P roll)) → c.election.won ≡ is_some c.bundle
  bundle-where-won h = go (winner (cast e P roll)) refl h
    where
      go : (v : Option Record) → winner (cast e P roll) ≡ v → c.bundle ≡ held_bundle v → c.election.won ≡ is_some c.bundle
      go none p k = rw k (counted-won ∙ open_is (cast e P roll) p)
      go (some B) p k = rw k (counted-won ∙ (winner-wins (cast e P roll) B p).1)

-- the same of an answer that may be refused
pub given-where-won : (e : ℕ) (P : Proposals) (roll : List RollRow) (answer : Result Counted Refusal) → count_told answer ≡ count_of e P roll
    → IfOk answer (λ c. c.bundle ≡ held_bundle (winner (cast e P roll))) → IfOk answer (λ c. c.election.won ≡ is_some c.bundle)
given-where-won e P roll (Ok c) q h = bundle-where-won e P roll c q h
given-where-won e P roll (Err refusal) q h = tt

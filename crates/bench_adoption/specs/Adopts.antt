-- Inner: the promise of an adoption after its count (document 01, "Proposals and votes" and "Entries and pages"). Assumes nothing.
use Rattle.std.specs.Prelude.{◌≡◌, List, ℕ, Result, IfOk}
use Rattle.refusals.specs.declared.Refusal.{Refusal}
use Rattle.voting.specs.declared.RollRow.{RollRow}
use Rattle.voting.specs.Tally.{winner}
use Rattle.voting_roll.specs.Election.{Proposals, cast, election_of}
use Rattle.voting_tally.specs.Groups.{held_bundle}
use Rattle.voting_count.specs.declared.Counted.{Counted}
use Rattle.voting_count.specs.Count.{count_told}
use Rattle.ledger.specs.declared.Bench.{Bench}
use Rattle.ledger.specs.Ledger.{Call, adopt, start, step, fed}
use Rattle.ledger.specs.Bench.{Outcome, bench_of, outcome}

-- of a bench that calls left: with the answer of an election, and its won bundle as it is stored, the ledger's step
unfoldable pub Adopts : Bench → Result Counted Refusal → Outcome → Type 0
Adopts bench c r = (calls : List Call) (e : ℕ) (P : Proposals) (roll : List RollRow) → bench ≡ bench_of (fed start calls)
    → (count_told c).election ≡ election_of e P roll → IfOk c (λ x. x.bundle ≡ held_bundle (winner (cast e P roll)))
    → r ≡ outcome (step (fed start calls) (adopt e P roll))

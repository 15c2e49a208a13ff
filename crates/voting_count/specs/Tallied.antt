-- Document 02, A4: what a tally answers while the rows of the roll come in, one by one. Assumes nothing.
use Rattle.std.specs.Prelude.{cond, List, [], ◌∷◌, map, ℕ, eqb, Result, Ok, Err}
use Rattle.arrayvec.specs.ArrayVec.{ArrayVec}
use Rattle.refusals.specs.declared.Refusal.{Refusal}
use Rattle.refusals.specs.Numbers.{number}
use Rattle.voting.specs.declared.ElectionResult.{ElectionResult}
use Rattle.voting.specs.declared.RollRow.{RollRow}
use Rattle.voting.specs.Tally.{Election, election_told}
use Rattle.voting_roll.specs.Election.{Proposals, election_fault, election_of}

-- the beginnings of a list, from none of its elements to all: its prefixes, the shortest first
unfoldable pub beginnings : {A : Type 0} → List A → List (List A)
beginnings [] = [] ∷ []
beginnings (x ∷ l) = [] ∷ map (λ b. x ∷ b) (beginnings l)

-- The answers of a tally in numbers: before the first row of the roll and after each; none on refusal.
pub record Tallied : Type 0 where
  pub number : ℕ
  pub answers : List Election

-- what the answers or a refusal are in numbers
abbrev pub tallied_told : Result (ArrayVec ElectionResult) Refusal → Tallied
tallied_told (Ok answers) = record { number = 0; answers = map (λ r. election_told (Ok r)) answers.items }
tallied_told (Err refusal) = record { number = number refusal; answers = [] }

-- THE ANSWERS SO FAR of an election on e: on each beginning of the roll the election's answer
unfoldable pub tallied_of : ℕ → Proposals → List RollRow → Tallied
tallied_of e P roll =
    let n = election_fault e P roll in
    cond (eqb n 0) (record { number = 0; answers = map (election_of e P) (beginnings roll) }) (record { number = n; answers = [] })

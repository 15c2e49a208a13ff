-- Document 01, "Proposals and votes": the election. Left out, as the document says: 000's win by plurality. Assumes nothing.
use Rattle.std.specs.Prelude.{Bool, true, false, ◌&&◌, cond, List, [], ◌∷◌, map, ℕ, ◌+◌, ◌*◌, max, ltb, Result, Ok, Err}
use Rattle.std.proofs.Math.Option.{Option, none, some}
use Rattle.record.specs.declared.Edit.{Edit}
use Rattle.record.specs.declared.Constraint.{Constraint}
use Rattle.record.specs.Record.{Record}
use Rattle.record_rows.specs.row.Row.{same, edit_row, constraint_row}
use Rattle.refusals.specs.declared.Refusal.{Refusal}
use Rattle.refusals.specs.Numbers.{number}
use Rattle.voting.specs.declared.RollRow.{RollRow}
use Rattle.voting.specs.declared.ElectionResult.{ElectionResult}
use Rattle.voting.specs.Bundle.{vote}

-- Votes are equal when edits, bodies and constraints are.
unfoldable pub same_edit : Edit → Edit → Bool
same_edit d e = same (edit_row d) (edit_row e)

unfoldable pub same_constraint : Constraint → Constraint → Bool
same_constraint c d = same (constraint_row c) (constraint_row d)

unfoldable pub same_list : {A : Type 0} → (A → A → Bool) → List A → List A → Bool
same_list equal [] [] = true
same_list equal [] (y ∷ t) = false
same_list equal (x ∷ s) [] = false
same_list equal (x ∷ s) (y ∷ t) = equal x y && same_list equal s t

unfoldable pub same_bundle : Record → Record → Bool
same_bundle P Q = same_list same_edit P.edits Q.edits && same_list same_constraint P.constraints Q.constraints

-- A ballot: a bench's weight and its vote.
pub record Ballot : Type 0 where
  pub weight : ℕ
  pub vote : Option Record

-- the ballots that a roll casts on e, bench k holding the proposal `held k`; benches off the roll cast none
unfoldable pub ballots : (ℕ → Record) → ℕ → List RollRow → List Ballot
ballots held e roll = map (λ row. record { weight = row.weight; vote = vote (held row.bench) e }) roll

unfoldable pub total : List Ballot → ℕ
total [] = 0
total (b ∷ l) = b.weight + total l

-- the weight of the votes that pass a test: of a group (000's tally), or silent (the rest of 000's cotally)
unfoldable pub weigh : (Option Record → Bool) → List Ballot → ℕ
weigh p [] = 0
weigh p (b ∷ l) = cond (p b.vote) b.weight 0 + weigh p l

abbrev pub is_silent : Option Record → Bool
is_silent none = true
is_silent (some B) = false

abbrev pub votes_for : Record → Option Record → Bool
votes_for B none = false
votes_for B (some C) = same_bundle B C

-- the weight of the group of a vote among the ballots, 0 for a silent one
abbrev pub group : List Ballot → Option Record → ℕ
group l none = 0
group l (some B) = weigh (votes_for B) l

-- the greatest group's weight among the votes of some ballots
unfoldable pub greatest_of : List Ballot → List Ballot → ℕ
greatest_of l [] = 0
greatest_of l (b ∷ m) = max (group l b.vote) (greatest_of l m)

unfoldable pub greatest : List Ballot → ℕ
greatest l = greatest_of l l

unfoldable pub silent : List Ballot → ℕ
silent l = weigh is_silent l

-- won by a group of equal bundles when 2 × its weight > the whole roll's weight
unfoldable pub wins : List Ballot → Record → Bool
wins l B = ltb (total l) (2 * weigh (votes_for B) l)

unfoldable pub won : List Ballot → Bool
won l = ltb (total l) (2 * greatest l)

-- the won bundle, none if the election is open
unfoldable pub winner_of : List Ballot → List Ballot → Option Record
winner_of l [] = none
winner_of l (b ∷ m) = let r = winner_of l m in cond (ltb (total l) (2 * group l b.vote)) b.vote r

unfoldable pub winner : List Ballot → Option Record
winner l = winner_of l l

-- The answer of an election in numbers: on refusal every part but the number is 0.
pub record Election : Type 0 where
  pub number : ℕ
  pub won : Bool
  pub greatest : ℕ
  pub silent : ℕ
  pub total : ℕ

-- what a result or a refusal is in numbers
abbrev pub election_told : Result ElectionResult Refusal → Election
election_told (Ok r) = record { number = 0; won = r.won; greatest = r.greatest; silent = r.silent; total = r.total }
election_told (Err refusal) = record { number = number refusal; won = false; greatest = 0; silent = 0; total = 0 }

-- the answer: the greatest group's weight (0 if all are silent), silent weight and total
abbrev pub counted : List Ballot → Election
counted l = record { number = 0; won = won l; greatest = greatest l; silent = silent l; total = total l }

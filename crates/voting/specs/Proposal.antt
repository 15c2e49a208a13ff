-- Document 01, "Proposals and votes", last paragraph: making a proposal from a record M and the bench's old proposal Q. Assumes nothing.
use Rattle.std.specs.Prelude.{◌≡◌, Bool, true, false, not, ◌&&◌, ◌||◌, cond, List, [], ◌∷◌, ◌++◌, map, ℕ, ◌<◌, eqb, ltb}
use Rattle.record.specs.declared.Edit.{Edit}
use Rattle.record.specs.declared.Constraint.{Constraint}
use Rattle.lists.specs.Lists.{all, filter, mem, index_of, ◌among◌, Has}
use Rattle.record.specs.Record.{Record, written, has, notafter}
use Rattle.record.specs.Schedule.{schedule}
use Rattle.record.specs.Judgement.{settled}
use Rattle.lists.specs.Keyed.{precedes, Ascending, united}
use Rattle.record_tables.specs.Table.{edit_key, constraint_key, unite}
use Rattle.voting.specs.Bundle.{bundle, eligible}
use Rattle.voting.specs.Tally.{same_bundle}

-- the record with the constraints of a list
unfoldable pub joined_constraints : Record → List Constraint → Record
joined_constraints R l = record { edits = R.edits; constraints = united constraint_key R.constraints l }

abbrev pub before : ℕ → ℕ → Constraint
before a b = record { left = a; rule = 0; right = b }

-- the noncommuting pairs with no order between them, an order being a direct row
unfoldable pub unordered : Record → List Constraint
unordered R = filter (λ c. eqb c.rule 2 && not (notafter R c.left c.right || notafter R c.right c.left)) R.constraints

-- settled in Q; an edit that Q doesn't know is not
unfoldable pub settled_in : Record → ℕ → Bool
settled_in Q x = mem x (written Q) && settled Q x

-- "b notafter a" for b settled in Q and a not
abbrev pub settled_first : Bool → Bool → ℕ → ℕ → List Constraint
settled_first true true a b = []
settled_first true false a b = before a b ∷ []
settled_first false true a b = before b a ∷ []
settled_first false false a b = []

unfoldable pub firsts : Record → List Constraint → List Constraint
firsts Q [] = []
firsts Q (c ∷ l) = settled_first (settled_in Q c.left) (settled_in Q c.right) c.left c.right ++ firsts Q l

-- the union, with what was settled first
unfoldable pub started : Record → Record → Record
started M Q = let U = unite M Q in joined_constraints U (firsts Q (unordered U))

-- the edits of the row are marked required, the others aborted
abbrev pub decision_on : List ℕ → ℕ → Constraint
decision_on row x = cond (mem x row) (record { left = x; rule = 1; right = 0 }) (before x x)

unfoldable pub decisions : List ℕ → List ℕ → List Constraint
decisions row names = map (decision_on row) names

-- an unordered pair of the row is ordered as scheduled
unfoldable pub orders : List ℕ → List Constraint → List Constraint
orders row [] = []
orders row (c ∷ l) =
    let r = orders row l in
    cond (mem c.left row && mem c.right row) (cond (ltb (index_of c.left row) (index_of c.right row)) (before c.left c.right) (before c.right c.left) ∷ r) r

unfoldable pub finished : Record → Record
finished R = let row = schedule R [] in joined_constraints R (decisions row (written R) ++ orders row (unordered R))

-- the new proposal
unfoldable pub proposed : Record → Record → Record
proposed M Q = finished (started M Q)

-- what checked tables have: a noncommuting pair is stored with the lower name on the left
pub record Paired (R : Record) : Type 0 where
  pub lower : (a b : ℕ) → has a 2 b R.constraints ≡ true → a < b

-- what is asked of two records that are joined: ascending tables, and one edit for a key
pub record Joinable (M Q : Record) : Type 0 where
  pub left-edits : Ascending edit_key M.edits
  pub right-edits : Ascending edit_key Q.edits
  pub left-constraints : Ascending constraint_key M.constraints
  pub right-constraints : Ascending constraint_key Q.constraints
  pub bodies : (d e : Edit) → Has d Q.edits → Has e M.edits → precedes (edit_key d) (edit_key e) ≡ false → precedes (edit_key e) (edit_key d) ≡ false → d ≡ e

-- P keeps Q: each edit with an eligible bundle in Q has the same bundle in P, still eligible.
unfoldable pub Keeps : Record → Record → Type 0
Keeps Q P = (e : ℕ) → e among written Q → eligible Q e ≡ true → (bundle P e ≡ bundle Q e) × (eligible P e ≡ true)

unfoldable pub keeps : Record → Record → Bool
keeps Q P = all (λ e. not (eligible Q e) || same_bundle (bundle P e) (bundle Q e) && eligible P e) (written Q)

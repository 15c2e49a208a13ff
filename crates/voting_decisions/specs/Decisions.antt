-- Inner: what is read of the schedule while decisions and orders are made; what they are says the crate proposal. Assumes nothing.
use Rattle.std.specs.Prelude.{◌≡◌, cond, List, [], ◌∷◌, ℕ, eqb}
use Rattle.record.specs.declared.Constraint.{Constraint}
use Rattle.record.specs.Record.{Record, WellFormed}
use Rattle.graph.specs.links.Marks.{place_in, values_of}
use Rattle.graph.specs.indexes.Indexed.{Indexed}
use Rattle.voting.specs.Proposal.{before, decision_on}

-- the index of each name, and the page of each edit by index, 0 where it is not in the row; the row starts with INIT
pub record Paged (R : Record) (rest index pages : List ℕ) : Type 0 where
  pub formed : WellFormed R
  pub indexed : Indexed R index
  pub paged : pages ≡ values_of R (place_in (0 ∷ rest))

-- an edit with a page is marked required, one without aborted
abbrev pub decided : ℕ → ℕ → Constraint
decided x page = cond (eqb page 0) (before x x) (record { left = x; rule = 1; right = 0 })

-- the row that decides an edit
abbrev pub decision_row : List ℕ → ℕ → List Constraint
decision_row row x = decision_on row x ∷ []

-- a table of constraints as a record without edits
abbrev pub only_constraints : List Constraint → Record
only_constraints l = record { edits = []; constraints = l }

-- Inner: what is read of the old proposal while the rows "b notafter a" are made; what the rows are says the crate proposal. Assumes nothing.
use Rattle.std.specs.Prelude.{◌≡◌, cond, ◌&&◌, List, ℕ, eqb, ltb, get_or}
use Rattle.record.specs.Record.{Record, WellFormed}
use Rattle.record.specs.Judgement.{settled}
use Rattle.graph.specs.links.Marks.{marks_of}
use Rattle.graph.specs.indexes.Indexed.{Indexed}

-- the index of each name, and the marks of the settled edits by index
pub record Settles (Q : Record) (index marks : List ℕ) : Type 0 where
  pub formed : WellFormed Q
  pub indexed : Indexed Q index
  pub marked : marks ≡ marks_of Q (settled Q)

-- the rank at an index: 1 for a settled edit, 2 for another one, and at INIT's index, which unknown edits have
abbrev pub settled_rank : List ℕ → ℕ → ℕ
settled_rank marks i = cond (ltb 0 i && eqb (get_or marks i 0) 1) 1 2

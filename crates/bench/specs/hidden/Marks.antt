-- Inner: the index of an edit, and the mark of a name. Assumes nothing.
use Rattle.std.specs.Prelude.{cond, List, ℕ, suc, get_or, Option, Some, None}
use Rattle.lists.specs.Lists.{mem, index_of}

-- where a name stands among the written ones, counted from 1: 0 is the index of INIT
abbrev pub index_in : ℕ → List ℕ → Option ℕ
index_in x l = cond (mem x l) (Some (suc (index_of x l))) None

-- the mark of a name, from the index of each name and the mark at each index
abbrev pub mark_named : List ℕ → List ℕ → ℕ → ℕ
mark_named index marks x = get_or marks (get_or index x 0) 0

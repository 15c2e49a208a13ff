-- Document 01, "The record": what the tables of every stored record have, for no row with a fault has joined it. Assumes nothing.
use Rattle.std.specs.Prelude.{◌≡◌, Bool, true, not, ◌&&◌, cond, List, ◌∷◌, Option, Some, None, ℕ, ◌≤◌, eqb, length, get_or}
use Rattle.record.specs.declared.Record as declared
use Rattle.lists.specs.Lists.{mem, all, index_of}
use Rattle.record.specs.Record.{Record, names}
use Rattle.record.specs.Stored.{record_of, edit_limit, constraint_limit}
use Rattle.lists.specs.Keyed.{Ascending}
use Rattle.record_rows.specs.row.Row.{Row, constraint_cells, edit_in_range, constraint_in_range, edit_row, constraint_row}
use Rattle.record_tables.specs.Table.{edit_key, constraint_key, pair_not_allowed, decision}
use Rattle.record_rows.specs.grounds.Ground.{◌given◌, ◌orelse◌}

pub record Checked (R : Record) : Type 0 where
  -- at most 128 edits, INIT included, and 512 constraints
  pub editplaces : length R.edits ≤ edit_limit
  pub constraintplaces : length R.constraints ≤ constraint_limit
  -- ascending without repeats: edits by name, constraints by left, rule, right
  pub editorder : Ascending edit_key R.edits
  pub constraintorder : Ascending constraint_key R.constraints
  -- every number in its range
  pub editrange : all (λ e. edit_in_range (edit_row e)) R.edits ≡ true
  pub constraintrange : all (λ c. constraint_in_range (constraint_row c)) R.constraints ≡ true
  -- the sides of a constraint are known, and its pair is allowed
  pub sides : all (λ c. mem c.left (names R) && mem c.right (names R)) R.constraints ≡ true
  pub pairs : all (λ c. not (pair_not_allowed c.left c.rule c.right)) R.constraints ≡ true

-- the part of it that the walks need, of a record as it is stored
pub record OrderedTables (r : declared.Record) : Type 0 where
  pub editplaces : r.edit_count ≤ edit_limit
  pub constraintplaces : r.constraint_count ≤ constraint_limit
  pub editorder : Ascending edit_key (record_of r).edits
  pub constraintorder : Ascending constraint_key (record_of r).constraints

-- marks of the edits that are known: 1 at each name and at 0
abbrev pub MarksNames : List ℕ → List ℕ → Type 0
MarksNames marks names = (n : ℕ) → eqb (get_or marks n 0) 1 ≡ mem n (0 ∷ names)

-- the place of a number in a list, where it stands there
abbrev pub known_place : ℕ → List ℕ → Option ℕ
known_place x l = cond (mem x l) (Some (index_of x l)) None

-- 5, 6 and 7 of a constraint row, by the marks of the edits that it knows
unfoldable pub marked_further : List ℕ → Bool → Row → ℕ
marked_further marks adding row =
    let c = constraint_cells row in
    5 given not (eqb (get_or marks c.left 0) 1 && eqb (get_or marks c.right 0) 1) orelse 6 given pair_not_allowed c.left c.rule c.right orelse 7 given (adding && decision c.left c.rule c.right)

-- Inner: document 01, "The record": what a judgement asks of a record: it is within the limits, and no row of its tables has a fault. Assumes nothing.
use Rattle.std.specs.Prelude.{◌≡◌, true, ℕ, ◌≤◌, ◌<◌, length}
use Rattle.lists.specs.Lists.{◌among◌, ascending}
use Rattle.record_rows.specs.row.Row.{name_limit}
use Rattle.record.specs.Stored.{edit_limit, constraint_limit}
use Rattle.record.specs.Record.{Record, names, has, WellFormed}

pub record Fit (R : Record) : Type 0 where
  pub edits : length R.edits ≤ edit_limit
  pub constraints : length R.constraints ≤ constraint_limit
  pub formed : WellFormed R
  pub ascends : ascending (names R) ≡ true
  pub low : (x : ℕ) → x among names R → x < name_limit
  pub rules : (a k b : ℕ) → has a k b R.constraints ≡ true → k < 3
  -- a noncommuting pair is stored with the lower name on the left
  pub paired : (a b : ℕ) → has a 2 b R.constraints ≡ true → a < b

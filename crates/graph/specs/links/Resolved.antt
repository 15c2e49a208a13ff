-- Inner: a record by index, as its judgement reads it: linked rows of each rule above its base. Assumes nothing.
use Rattle.std.specs.Prelude.{◌≡◌, true, List, ℕ, ◌<◌}
use Rattle.record.specs.Record.{Record, has, notafter, enables, WellFormed}
use Rattle.graph.specs.links.Links.{notafter_base, enables_base, noncommuting_base, Leads}

pub record Resolved (R : Record) (rows : List ℕ) : Type 0 where
  pub formed : WellFormed R
  -- a noncommuting pair is stored with the lower name on the left
  pub paired : (a b : ℕ) → has a 2 b R.constraints ≡ true → a < b
  pub notafters : Leads (notafter R) R notafter_base rows
  pub enablers : Leads (enables R) R enables_base rows
  pub pairs : Leads (λ a b. has a 2 b R.constraints) R noncommuting_base rows

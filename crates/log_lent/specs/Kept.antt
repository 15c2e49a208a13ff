-- How what is lent is kept. Assumes nothing.
use Rattle.std.specs.Prelude.{take}
use Rattle.log_lent.specs.declared.Lending.{Lending}
use Rattle.log_lent.specs.Lent.{Lent, roll_places, row_places}
use Rattle.log_lent.specs.Listed.{Listed}
use Rattle.log_lent.specs.lent_tables.Tables.{Tables}

-- of the roll no more rows are kept than change an answer
pub record Kept (L : Lent) (lending : Lending) : Type 0 where
  pub edits : Tables L.edits lending.edits.tables
  pub constraints : Tables L.constraints lending.constraints.tables
  pub roll : Listed roll_places (take roll_places L.roll) lending.roll lending.roll_count
  pub row : Listed row_places L.row lending.row lending.row_count

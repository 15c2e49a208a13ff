-- How the nine lent tables of a kind are kept. Assumes nothing.
use Rattle.std.specs.Prelude.{◌≡◌, List, [], ℕ, ◌<◌, length, get_or}
use Rattle.record_rows.specs.grounds.Ground.{Rows}
use Rattle.log_lent.specs.declared.lent_tables.KeptRows.{KeptRows}
use Rattle.log_lent.specs.Lent.{lent_records}
use Rattle.log_lent.specs.Listed.{Listed}

abbrev pub no_rows : {cells places : ℕ} → KeptRows cells places
no_rows = record { rows = []; count = 0 }

pub record Tables {cells places : ℕ} (tables : ℕ → Rows) (kept : List (KeptRows cells places)) : Type 0 where
  pub size : length kept ≡ lent_records
  pub rows : (k : ℕ) → k < lent_records → Listed places (tables k) (get_or kept k no_rows).rows (get_or kept k no_rows).count

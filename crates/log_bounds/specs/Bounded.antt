-- A desk whose numbers fit: every value that a line gave has 32 bits, and every weight 16. Every desk that the lines of a log lead to has this
-- (log/proofs/Fits.antt), and the answer to a line is then never longer than the limit. Assumes nothing.
use Rattle.std.specs.Prelude.{ℕ, ◌<◌}
use Rattle.lists.specs.Lists.{Has}
use Rattle.record.specs.declared.Edit.{Edit}
use Rattle.record_rows.specs.row.Row.{Row, value_cell, edit_row}
use Rattle.voting.specs.declared.RollRow.{RollRow}
use Rattle.log_lent.specs.Lent.{weight_limit}
use Rattle.log_session.specs.Desk.{Desk, ledger_of}

-- the most bytes of the answer to one line
abbrev pub answer_limit : ℕ
answer_limit = 36864

pub record Bounded (D : Desk) : Type 0 where
  pub values : (e : Edit) → Has e (ledger_of D).multilog.edits → value_cell (edit_row e) < 4294967296
  pub lent : (k : ℕ) (row : Row) → Has row (D.lent.edits k) → value_cell row < 4294967296
  pub weights : (row : RollRow) → Has row D.lent.roll → row.weight < weight_limit

-- Inner: a log that is run in part. Assumes nothing.
use Rattle.std.specs.Prelude.{◌≡◌, List, ℕ, ◌+◌, ◌-◌, ◌≤◌, ◌<◌, length, drop}
use Rattle.bench.specs.Changes.{open_at}
use Rattle.text_lines.specs.Lines.{lines}
use Rattle.log_forms.specs.declared.Printer.{Printer}
use Rattle.log_forms.specs.Printed.{PrintedLines}
use Rattle.log_session.specs.declared.Session.{Session}
use Rattle.log_session.specs.Desk.{Desk}
use Rattle.log_bounds.specs.Bounded.{answer_limit, Bounded}
use Rattle.log_session.specs.calls.Lines.{Holds}
use Rattle.log_run.specs.Log.{Run, begun, run_lines, most_lines}

-- a session whose bench has another page open
abbrev pub opened : Session → ℕ → Session
opened session page = record { bench = open_at session.bench page; lending = session.lending }

-- The lines before a place, from, were run: what is in memory, the count and what is printed are those of a run from which the lines that are left
-- lead to the end of the whole log. Each line but the last printed no further than the limit.
pub record Running (log : List ℕ) (D : Desk) (before : Printer) (from : ℕ) (session : Session) (now : Printer) (limit : ℕ) : Type 0 where
  pub run : Run
  pub rest : run_lines (begun D before.line) (lines log) ≡ run_lines run (lines (drop from log))
  pub held : Holds run.desk session
  pub counted : now.line ≡ run.count
  pub told : PrintedLines run.printed before now
  pub few : now.line + (length log - from) ≤ before.line + length log
  pub bounded : Bounded D → Bounded run.desk
  -- with room for one answer more after the limit, every answer fits
  pub near : Bounded D → before.line + length log ≤ most_lines → before.at ≤ limit → limit + answer_limit ≤ length before.out.now → now.at ≤ limit + answer_limit

-- a run stops at the end of the log or above the limit, after one line at least
pub record Stops (size limit start from at : ℕ) : Type 0 where
  pub inside : from ≤ size
  pub ended : at ≤ limit → from ≡ size
  pub forward : start ≤ limit → 0 < size → 0 < from

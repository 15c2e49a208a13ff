-- A log in two parts: one that was kept, and what follows it. Assumes nothing.
use mathlib.Core.Path.{◌≡◌, sym, ap, ◌∙◌}
use mathlib.Core.List.{List, ◌++◌}
use Prim.Native.Nat.{ℕ}
use lib.ListN.{length}
use Rattle.text_lines.specs.Lines.{lines}
use Rattle.stream.specs.Pieces.{last_end}
use Rattle.stream.proofs.Pieces.{lines-append}
use Rattle.log_session.specs.Desk.{empty_desk}
use Rattle.log_run.specs.Log.{begun, run_lines, log_run}
use Rattle.log_run.proofs.Runs.{run-parts}

-- A LOG THAT ENDS ITS LAST LINE CAN BE KEPT: what follows it is run on its desk and counted on as in one piece
pub kept_run : (kept log : List ℕ) → last_end kept ≡ length kept → run_lines (log_run kept) (lines log) ≡ log_run (kept ++ log)
unfolding log_run
kept_run kept log h = sym (ap (run_lines (begun empty_desk 0)) (lines-append kept log h) ∙ run-parts (begun empty_desk 0) (lines kept) (lines log))

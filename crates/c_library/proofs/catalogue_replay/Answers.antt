-- `catalogue_replay` meets its contract. Assumes nothing.
use mathlib.Core.Path.{◌∙◌}
use native.Mathlib.Omega.{arith}
use Rattle.text_lines.specs.Lines.{lines}
use Rattle.log_run.specs.Log.{log_run, run_lines}
use Rattle.c_library.specs.Replies.{texts_after}
use Rattle.c_library.proofs.catalogue_replay.Goals as goal

pub returns : goal.returns
unfolding texts_after log_run run_lines lines
returns c = λ l. let q = c.answered.ensures (omega (arith, l)) in (c.from.ensures ∙ q.0, q.1, q.2)

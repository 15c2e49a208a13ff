-- A call log that arrives in pieces, run as it comes, from whatever was run before. What was read no contract can say: it is some pieces. Assumes nothing.
use Rattle.std.specs.Prelude.{◌≡◌, List, ℕ}
use Rattle.text_lines.specs.Lines.{lines}
use Rattle.stream.specs.Pieces.{no_input, fed_pieces, input_of}
use Rattle.log_session.specs.calls.Lines.{Holds}
use Rattle.log_run.specs.Log.{Run, run_lines, log_run}
use Rattle.stdio_log.specs.declared.memory.Memory.{Memory}

-- what is in memory after a run
pub record Ran (run : Run) (memory : Memory) : Type 0 where
  pub held : Holds run.desk memory.session
  pub counted : memory.line ≡ run.count

-- from a start the lines that have ended were run, and these bytes wait
pub record Streaming (start : Run) (memory : Memory) (waits : List ℕ) : Type 0 where
  pub pieces : List (List ℕ)
  pub ran : Ran (run_lines start (fed_pieces no_input pieces).told) memory
  pub waits_are : waits ≡ (fed_pieces no_input pieces).waits

-- THE RUN of a file is that of the log which its pieces make up, wherever it was cut
pub record Streamed (start : Run) (memory : Memory) : Type 0 where
  pub pieces : List (List ℕ)
  pub ran : Ran (run_lines start (lines (input_of pieces))) memory

-- THE RUN of a kept log from an empty bench, and of the lines that follow it
pub record Continued (memory : Memory) : Type 0 where
  pub kept : List (List ℕ)
  pub pieces : List (List ℕ)
  pub ran : Ran (run_lines (log_run (input_of kept)) (lines (input_of pieces))) memory

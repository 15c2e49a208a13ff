use Rattle.std.proofs.Common.{length, ◌+◌, ◌-◌, ◌≤◌}
use Rattle.log_run.specs.Log.{Run}
use Rattle.stdio_log.specs.Streaming.{Ran}
use Rattle.stdio_log.proofs.Parts.{UpTo}
use Rattle.stdio_log.proofs.run_lines.Given as goal

abbrev pub invariant-loop-from : goal.invariant-loop-from
invariant-loop-from g l =
    (l.from ≤ length l.log) × (l.memory.line + (length l.log - l.from) ≤ l.initial.memory.line + length l.log)
    × ((R : Run) → Ran R l.initial.memory → UpTo l.log R l.from l.memory.session l.memory.line)

abbrev pub decreases-loop-from : goal.decreases-loop-from
decreases-loop-from g l = length l.log - l.from

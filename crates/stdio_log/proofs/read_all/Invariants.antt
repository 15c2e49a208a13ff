use Rattle.std.proofs.Common.{◌+◌, ◌≤◌, take}
use Rattle.stream.specs.Pieces.{kept_bytes}
use Rattle.log_run.specs.Log.{Run, most_lines}
use Rattle.stdio_log.specs.Streaming.{Ran, Streaming}
use Rattle.stdio_log.proofs.read_all.Given as goal

abbrev pub invariant-loop-chunk : goal.invariant-loop-chunk
invariant-loop-chunk g l =
    (l.rest ≤ kept_bytes) × (l.left ≤ most_lines) × (l.memory.line + l.rest + l.left ≤ most_lines)
    × ((R : Run) → Ran R l.initial.memory → Streaming R l.memory (take l.rest l.chunk))

abbrev pub decreases-loop-chunk : goal.decreases-loop-chunk
decreases-loop-chunk g l = l.left

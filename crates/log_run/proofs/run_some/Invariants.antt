use Prim.Native.Nat.{◌+◌, ◌-◌, ◌≤◌}
use mathlib.Core.Path.{◌≡◌}
use lib.ListN.{length}
use Rattle.log_forms.specs.Printed.{SameBuffer}
use Rattle.log_session.specs.Desk.{Desk}
use Rattle.log_session.specs.calls.Lines.{Holds}
use Rattle.log_run.specs.Log.{most_lines}
use Rattle.log_run.specs.Running.{Running}
use Rattle.log_run.proofs.run_some.Given as goal

abbrev pub invariant-loop-from : goal.invariant-loop-from
invariant-loop-from l =
    (l.from ≤ length l.log) × (l.from ≡ 0 → l.printer.at ≡ l.initial.printer.at)
    × ((D : Desk) → Holds D l.initial.session → l.initial.printer.line + length l.log ≤ most_lines
    → Running l.log D l.initial.printer l.from l.session l.printer l.limit)
    × SameBuffer l.initial.printer l.printer

abbrev pub decreases-loop-from : goal.decreases-loop-from
decreases-loop-from l = length l.log - l.from

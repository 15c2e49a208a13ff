use Prim.Native.Nat.{◌+◌, ◌-◌, ◌≤◌}
use mathlib.Core.Path.{◌≡◌}
use lib.ListN.{length}
use Rattle.log_forms.specs.declared.Printer.{Printer}
use Rattle.log_forms.specs.Printed.{SameBuffer}
use Rattle.log_session.specs.declared.Session.{Session}
use Rattle.log_session.specs.Desk.{Desk}
use Rattle.log_run.specs.Log.{most_lines}
use Rattle.log_run.specs.Running.{opened, Running}
use Rattle.log_run.proofs.run_turns.Given as goal

abbrev pub invariant-loop-from : goal.invariant-loop-from
invariant-loop-from l =
    (l.from ≤ length l.log) × (l.initial.from ≤ l.from) × (l.from ≡ l.initial.from → l.printer.at ≡ l.initial.printer.at) × (l.turner.last ≡ l.initial.turner.last)
    × ((D : Desk) (before : Printer) (session : Session) → Running l.log D before l.initial.from session l.initial.printer l.limit → session.bench.turner ≡ l.initial.turner
    → before.line + length l.log ≤ most_lines → Running l.log D before l.from (opened session l.turner.opened) l.printer l.limit)
    × SameBuffer l.initial.printer l.printer

abbrev pub decreases-loop-from : goal.decreases-loop-from
decreases-loop-from l = length l.log - l.from

use mathlib.Core.Path.{◌≡◌}
use Prim.Native.Nat.{◌≤◌}
use lib.ListN.{length, take}
use Rattle.text_report.specs.Rows.{report_lines}
use Rattle.text_report.proofs.report_lines.Given as goal

abbrev pub invariant-loop-i : goal.invariant-loop-i
invariant-loop-i l = (l.i ≤ length l.edits) × (length l.lines ≡ 127) × (take l.i l.lines ≡ take l.i (report_lines l.judged 1 l.edits))

use mathlib.Core.Path.{◌≡◌}
use mathlib.Core.Bool.{false}
use lib.ListN.{take}
use Rattle.voting_roll.specs.Roll.{roll_faulty}
use Rattle.voting_roll.proofs.fault.Given as goal

abbrev pub invariant-loop-i : goal.invariant-loop-i
invariant-loop-i l = roll_faulty (take l.i l.rows) ≡ false

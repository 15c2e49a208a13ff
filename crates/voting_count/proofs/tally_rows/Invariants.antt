use mathlib.Core.Path.{◌≡◌}
use mathlib.Core.Bool.{false}
use mathlib.Core.List.{[]}
use Prim.Native.Nat.{◌+◌}
use lib.ListN.{length, take}
use Rattle.voting_roll.specs.Roll.{roll_faulty}
use Rattle.voting_roll.specs.Election.{Proposals}
use Rattle.voting_tally.specs.Groups.{tally_of}
use Rattle.voting_count.specs.Count.{Faultless}
use Rattle.voting_count.specs.Counting.{decoded_proposals}
use Rattle.voting_count.proofs.Rolled.{RowsCounted}
use Rattle.voting_count.proofs.tally_rows.Given as goal

abbrev pub invariant-loop-i : goal.invariant-loop-i
invariant-loop-i l =
    (roll_faulty (take l.i l.roll) ≡ false) × (length l.answers.items ≡ l.i + 1)
    × ((P : Proposals) → Faultless P → l.proposals ≡ decoded_proposals P → l.initial.tally ≡ tally_of [] → RowsCounted l.name P (take l.i l.roll) l.tally l.answers.items)

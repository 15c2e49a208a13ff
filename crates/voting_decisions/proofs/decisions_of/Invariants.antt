use Prim.Native.Nat.{ℕ}
use mathlib.Core.Path.{◌≡◌}
use mathlib.Core.List.{List, ◌∷◌, map}
use lib.ListN.{length, take}
use Rattle.record.specs.Record.{Record, written}
use Rattle.record.specs.Stored.{padded, stored, empty_record, filler_constraint}
use Rattle.voting.specs.Proposal.{decision_on}
use Rattle.voting_decisions.specs.Decisions.{Paged}
use Rattle.voting_decisions.proofs.decisions_of.Given as goal

abbrev pub invariant-loop-i : goal.invariant-loop-i
invariant-loop-i l = (length l.r.constraints ≡ 512) × (l.r.edits ≡ empty_record.edits) × (l.r.edit_count ≡ empty_record.edit_count)
    × ((R : Record) (rest index : List ℕ) → l.fn.multilog ≡ stored R → Paged R rest index l.pages → l.r.constraints ≡ padded 512 filler_constraint (map (decision_on (0 ∷ rest)) (take l.i (written R))))

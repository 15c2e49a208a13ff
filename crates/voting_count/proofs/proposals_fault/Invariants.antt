use Rattle.voting_count.proofs.Benches.{FaultlessBelow}
use Rattle.voting_count.proofs.proposals_fault.Given as goal

abbrev pub invariant-loop-proposal : goal.invariant-loop-proposal
invariant-loop-proposal l = FaultlessBelow (λ x. x.edits.now) (λ x. x.constraints.now) l.proposals l.proposals l.proposal-index

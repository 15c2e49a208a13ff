use mathlib.Core.Path.{◌≡◌}
use lib.ListN.{length}
use Rattle.voting_count.specs.Count.{lent, Faultless}
use Rattle.voting_count.proofs.Proposals.{DecodedSound}
use Rattle.voting_count.proofs.decode_sound.Given as goal

abbrev pub invariant-loop-k : goal.invariant-loop-k
invariant-loop-k l = (length l.records ≡ 8) × (Faultless (lent l.proposals) → DecodedSound (lent l.proposals) l.records l.k)

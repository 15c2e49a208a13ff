use Rattle.bench.proofs.Moves.{opens}
use Rattle.bench.proofs.open_at.Goals as goal

pub returns : goal.returns
returns c = opens _ _ _ c.turn_to.ensures.opens

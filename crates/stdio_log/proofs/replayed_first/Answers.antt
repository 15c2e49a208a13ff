-- `replayed_first` meets its contract. Assumes nothing.
use Rattle.stdio_log.proofs.replayed_first.Goals as goal

pub returns : goal.returns
returns g c = c.replayed.ensures _ c.requires.first

-- `Lending::nothing` meets its contract. Assumes nothing.
use mathlib.Core.Path.{refl}
use Rattle.log_lent.proofs.Settings.{none_kept}
use Rattle.log_lent.proofs.Lending.nothing.Goals as goal

pub returns : goal.returns
returns c = none_kept c.new.ensures c.new-2.ensures refl refl refl refl

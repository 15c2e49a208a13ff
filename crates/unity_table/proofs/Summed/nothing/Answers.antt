-- `nothing` meets its contract. Assumes nothing.
use mathlib.Core.Path.{refl}
use Rattle.lists.specs.Lists.{filter}
use Rattle.fraction.specs.Fraction.{common_denominator, numerator_over, sum_of, least_fraction, greatest_fraction}
use Rattle.unity_table.specs.Unity.{shares, count_by}
use Rattle.unity_table.specs.Summed.{summed}
use Rattle.unity_table.proofs.Sums.{open-none}
use Rattle.unity_table.proofs.Summed.nothing.Goals as goal

pub returns : goal.returns
unfolding summed shares filter count_by sum_of common_denominator numerator_over least_fraction greatest_fraction
returns c = open-none refl

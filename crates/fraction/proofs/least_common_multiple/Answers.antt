-- `least_common_multiple` meets its contract. Assumes nothing.
use Rattle.fraction.proofs.Bounds.{multiple-is}
use Rattle.fraction.proofs.least_common_multiple.Goals as goal

pub returns : goal.returns
returns c = multiple-is c.args.a c.args.b c.lowest_terms.result c.checked_mul.result c.lowest_terms.ensures c.checked_mul.ensures

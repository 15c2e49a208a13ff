-- `lowest_terms` meets its contract. Assumes nothing.
use Rattle.fraction.proofs.Bounds.{lowest-none, lowest-some}
use Rattle.fraction.proofs.Fraction.lowest_terms.Goals as goal

pub returns-then-common-eq0 : goal.returns-then-common-eq0
returns-then-common-eq0 c = lowest-none c.args.a c.args.b c.gcd-common.result c.gcd-common.ensures c.if-common-eq0.true

pub returns : goal.returns
returns c = lowest-some c.args.a c.args.b c.gcd-common.result c.gcd-common.ensures

use Rattle.std.proofs.Common.{arith}
use Rattle.std.proofs.lemmas.Grind.{common_steps}
use Rattle.suggestions.specs.Suggest.{advised, advice_of}
use Rattle.suggestions.proofs.advise.Goals as goal

pub returns-then-place : goal.returns-then-place
unfolding advised
returns-then-place c = grind (arith, common_steps)

pub returns-then-kind-eq0 : goal.returns-then-kind-eq0
unfolding advised advice_of
returns-then-kind-eq0 c = grind (arith, common_steps)

pub returns-then-concurrent : goal.returns-then-concurrent
unfolding advised advice_of
returns-then-concurrent c = grind (arith, common_steps)

pub returns-else-concurrent : goal.returns-else-concurrent
unfolding advised advice_of
returns-else-concurrent c = grind (arith, common_steps)

use Rattle.std.proofs.Common.{arith}
use Rattle.std.proofs.lemmas.Grind.{common_steps}
use Rattle.suggestions.specs.Suggest.{suggested, suggested_rules}
use Rattle.suggestions.proofs.suggest.Goals as goal

pub returns-then-not-edit_in_range : goal.returns-then-not-edit_in_range
unfolding suggested
returns-then-not-edit_in_range c = grind (arith, common_steps)

pub returns : goal.returns
unfolding suggested suggested_rules
returns c = grind (arith, common_steps)

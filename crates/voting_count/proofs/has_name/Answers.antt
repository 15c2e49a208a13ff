-- `has_name` meets its contract. Assumes nothing.
use mathlib.Core.Path.{◌∙◌}
use borrow.Author.Rules.{rules}
use borrow.Author.Tests.{tests}
use Rattle.std.proofs.lemmas.Iterator.{YieldsList-from_slice}
use Rattle.std.proofs.lemmas.Iterator.Search.{any_from_yields_List}
use Rattle.voting_count.proofs.Known.{count-named, any-named}
use Rattle.voting_count.proofs.has_name.Goals as goal

pub returns : goal.returns
returns c =
    any_from_yields_List (count-named c.args.name) _ _ _ c.any.ensures.ran (YieldsList-from_slice c.args.edits.now cc) (λ x b q k. search (rules, tests))
    ∙ any-named c.args.name c.args.edits.now

-- `has_bench` meets its contract. Assumes nothing.
use mathlib.Core.Path.{◌∙◌}
use lib.Dec.{eqb}
use borrow.Author.Rules.{rules}
use borrow.Author.Tests.{tests}
use Rattle.std.proofs.lemmas.Iterator.{YieldsList-from_slice}
use Rattle.std.proofs.lemmas.Iterator.Search.{any_from_yields_List}
use Rattle.voting_roll.proofs.Rolls.{bench-some}
use Rattle.voting_roll.proofs.has_bench.Goals as goal

pub returns : goal.returns
returns c =
    any_from_yields_List (λ row. eqb row.bench c.args.bench) _ _ _ c.any.ensures.ran (YieldsList-from_slice c.args.rows.now cc) (λ x b q k. search (rules, tests))
    ∙ bench-some c.args.bench c.args.rows.now

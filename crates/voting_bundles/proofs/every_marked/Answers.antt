-- `every_marked` meets its contract. Assumes nothing.
use borrow.Author.Rules.{rules}
use borrow.Author.Tests.{tests}
use lib.Dec.{eqb}
use mathlib.Core.Path.{◌∙◌}
use Rattle.std.proofs.lemmas.Iterator.{YieldsList-from_slice, YieldsList-from_take}
use Rattle.std.proofs.lemmas.Iterator.Adapters.{YieldsList-from_skip}
use Rattle.std.proofs.lemmas.Iterator.Search.{all_from_yields_List}
use Rattle.voting_bundles.proofs.Judging.{all-marked}
use Rattle.voting_bundles.proofs.every_marked.Goals as goal

pub returns : goal.returns
returns c = λ R test n e.
    all_from_yields_List (λ mark. eqb mark 1) _ _ _ c.all.ensures.ran
    (YieldsList-from_take c.args.edits (YieldsList-from_skip 1 (YieldsList-from_slice c.args.marks.now cc) cc) cc) (λ x b q k. search (rules, tests))
    ∙ all-marked R test c.args.marks.now c.args.edits n e

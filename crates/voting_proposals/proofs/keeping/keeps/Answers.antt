-- `keeping::keeps` meets its contract. Assumes nothing.
use mathlib.Core.Path.{◌∙◌}
use mathlib.Core.Bool.{true, false}
use borrow.Author.Rules.{rules}
use borrow.Author.Tests.{tests}
use Rattle.std.proofs.lemmas.Iterator.{YieldsList-from_slice, cases_from_all}
use Rattle.voting_bundles.proofs.equality.Equal.{edits-kept}
use Rattle.voting_proposals.proofs.keeping.Keeping.{TellsKept, KeptAs, kept-all}
use Rattle.voting_proposals.proofs.keeping.keeps.Goals as goal

pub returns : goal.returns
returns c = λ Q P e f g h w.
    let s = c.edit_slice.ensures ∙ edits-kept c.args.old Q e in
    let o = c.new-old_bundles.ensures ∙ e in
    let n = c.new-new_bundles.ensures ∙ g in
    kept-all Q P _
    (cases_from_all _ _ _ (KeptAs Q P true) (KeptAs Q P false) c.all.ensures.ran (YieldsList-from_slice Q.edits (cc))
    (λ x q k. let is : TellsKept c.new-old_bundles.result c.new-new_bundles.result x.now.name true = search (rules, tests) in (search (rules, tests), λ m. is Q P o f n h m (w _ m)))
    (λ x q k. let is : TellsKept c.new-old_bundles.result c.new-new_bundles.result x.now.name false = search (rules, tests) in λ m. is Q P o f n h m (w _ m)))

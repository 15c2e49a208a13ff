-- `is_known` meets its contract. Assumes nothing.
use mathlib.Core.Path.{◌≡◌, refl, ◌∙◌}
use mathlib.Core.List.{map, []}
use lib.ListN.{length}
use borrow.Author.Rules.{rules}
use borrow.Author.Tests.{tests}
use Rattle.lists.specs.Lists.{mem}
use Rattle.record_tables.specs.Table.{names_of}
use Rattle.std.proofs.lemmas.Iterator.{YieldsList-from_slice}
use Rattle.std.proofs.lemmas.Iterator.Search.{any_from_yields_List}
use Rattle.voting_count.proofs.Known.{known-some}
use Rattle.voting_count.proofs.is_known.Goals as goal

pub returns : goal.returns
returns c = λ h.
    let t = c.args.proposals.now in
    let z : length c.args.proposals.now ≡ 8 = search rules in
    any_from_yields_List (λ r. mem c.args.name (names_of r.edits.now)) _ _ _ c.any.ensures.ran (YieldsList-from_slice t cc) (λ x b q k. search (rules, tests))
    ∙ known-some (λ x. x.edits.now) t (map (λ x. x.constraints.now) t) (record { edits = record { ref_ptr = (0, 0); now = [] }; constraints = record { ref_ptr = (0, 0); now = [] } }) refl c.args.name z h

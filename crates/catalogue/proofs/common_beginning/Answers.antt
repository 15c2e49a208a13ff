use Rattle.std.proofs.Common.{rules, tests, ◌≡◌, ap, ◌∙◌, take, length, List}
use Rattle.std.specs.List.{zip}
use Rattle.std.proofs.lemmas.Iterator.{YieldsList-from_slice, YieldsList-from_zip}
use Rattle.std.proofs.lemmas.Iterator.Search.{YieldsList-from_take_while}
use Rattle.std.proofs.lemmas.Iterator.Consumers.{count_from_yields_List, YieldsList-at}
use Rattle.std.proofs.lemmas.List.Folds.{length-prefix_len}
use Rattle.lists.proofs.Lists.{length-mapped}
use Rattle.lists.proofs.Arrays.{take-least}
use Rattle.record.specs.declared.Edit.{Edit}
use Rattle.catalogue.specs.Shelves.{rows}
use Rattle.catalogue.specs.Changes.{common}
use Rattle.catalogue.proofs.Common.{same_name, common-counted}
use Rattle.catalogue.proofs.common_beginning.Goals as goal

pub returns : goal.returns
returns c =
    let s = c.args in
    let g : length s.old.edits ≡ rows = search (rules, length-mapped) in
    let a = take c.min.result s.old.edits in
    let b = take s.new.count s.new.edits in
    count_from_yields_List c.take_while.result _ c.count.ensures.ran (YieldsList-from_take_while _ same_name (YieldsList-at c.take_while.ensures.source (YieldsList-from_zip (YieldsList-from_slice a cc) (YieldsList-from_slice b cc))) c.take_while.ensures.closure c.take_while.ensures.done (λ x b q k. search (rules, tests)))
    ∙ length-prefix_len same_name (zip a b) ∙ common-counted a b
    ∙ ap (λ (l : List Edit). common l b) (rw c.min.ensures (take-least s.opened rows s.old.edits g))

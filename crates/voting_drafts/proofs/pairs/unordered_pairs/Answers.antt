-- `pairs::unordered_pairs` meets its contract. Assumes nothing.
use mathlib.Core.Path.{◌≡◌, ◌∙◌}
use native.Mathlib.Omega.{arith}
use lib.ListN.{length, length-take}
use borrow.Author.Rules.{rules}
use borrow.Author.Tests.{tests}
use Rattle.lists.proofs.Lists.{length-mapped}
use Rattle.record_tables.proofs.Tables.{held-constraints}
use Rattle.voting_drafts.proofs.pairs.Unordered.{is_unordered, TellsUnordered, pair-left-known, pair-right-known, pairs-selected}
use Rattle.voting_drafts.proofs.pairs.unordered_pairs.Goals as goal

pub select-count-requires-clause-places : goal.select-count-requires-clause-places
select-count-requires-clause-places c =
    let z : length c.args.multilog.constraints ≡ 512 = search (rules, length-mapped) in
    rw c.constraint_slice.ensures (omega (arith, length-take c.args.multilog.constraint_count c.args.multilog.constraints))

pub returns-clause-pairs : goal.returns-clause-pairs
returns-clause-pairs c R e f =
    let s = c.constraint_slice.ensures ∙ held-constraints c.args.multilog R e in
    let w = c.select-count.ensures (is_unordered R) (λ x b h k. let is : TellsUnordered c.index_table-index.result c.resolved-graph.result.rows x b = search (rules, tests) in
    let m = rw s at h in is R (c.resolved-graph.ensures R e f).0 (c.index_table-index.ensures R e f) (pair-left-known R f.formed x m) (pair-right-known R f.formed x m)) in
    pairs-selected R _ _ _ _ _ f.constraints s w c.min.ensures

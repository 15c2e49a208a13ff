-- `draft::started` meets its contract. Assumes nothing.
use mathlib.Core.Path.{ap, ◌∙◌}
use mathlib.Core.List.{List}
use lib.ListN.{get_or}
use borrow.Author.Rules.{rules}
use borrow.Author.Tests.{tests}
use Rattle.record.specs.declared.Constraint.{Constraint}
use Rattle.lists.specs.Keyed.{united}
use Rattle.record_tables.specs.Table.{constraint_key}
use Rattle.record_joining.specs.insertion.Insertion.{table_of}
use Rattle.voting.specs.Proposal.{unordered}
use Rattle.graph.proofs.indexes.Fit.{checked-fit}
use Rattle.voting_drafts.specs.draft.Draft.{Settles, settled_rank}
use Rattle.std.specs.Prelude.{flat_map}
use Rattle.voting_drafts.specs.ranking.Ranking.{pair_order}
use Rattle.voting_drafts.proofs.draft.Settled.{firsts-by-rank}
use Rattle.voting_drafts.proofs.draft.started.Goals as goal

pub returns : goal.returns
returns c =
    λ U Q e k f j.
    let i = checked-fit Q j in
    let index = c.index_table-index.result in
    let marks = c.settleds-settled.result in
    let g : Settles Q index marks = record { formed = i.formed; indexed = c.index_table-index.ensures Q f i; marked = c.settleds-settled.ensures Q f i } in
    c.with_orders.ensures U.constraints (λ x. settled_rank marks (get_or index x 0)) (λ x r p. search (rules, tests)) (c.of.ensures U e k.constraintplaces) k.constraintorder
    ∙ ap (λ (l : List Constraint). table_of (united constraint_key U.constraints l))
    (ap (flat_map (pair_order (λ x. settled_rank marks (get_or index x 0)))) (c.slice.ensures ∙ c.unordered_pairs-pairs.ensures.pairs U e (checked-fit U k)) ∙ firsts-by-rank Q index marks g (unordered U))

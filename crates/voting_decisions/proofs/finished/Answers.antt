-- `decisions::finished` meets its contract. Assumes nothing.
use Prim.Native.Nat.{ℕ}
use mathlib.Core.Path.{ap, ◌∙◌}
use mathlib.Core.List.{List, ◌∷◌}
use Rattle.std.specs.Prelude.{Err, flat_map}
use Rattle.std.proofs.lemmas.Result.{err_from_is_err_and}
use Rattle.record.specs.declared.Constraint.{Constraint}
use Rattle.record.specs.Record.{written}
use Rattle.lists.specs.Keyed.{united}
use Rattle.lists.proofs.Union.{ascending-united}
use Rattle.record_tables.specs.Table.{constraint_key}
use Rattle.voting.specs.Proposal.{decisions, orders, unordered}
use Rattle.graph.specs.links.Marks.{values_of, place_in}
use Rattle.record_joining.specs.insertion.Insertion.{table_of}
use Rattle.record_joining.proofs.insertion.Tables.{stays-full}
use Rattle.graph.proofs.indexes.Fit.{checked-fit}
use Rattle.voting_decisions.specs.Decisions.{Paged}
use Rattle.voting_drafts.specs.ranking.Ranking.{rank_of, pair_order}
use Rattle.voting_decisions.proofs.Paging.{orders-by-page, scheduled-rest, finished-is}
use borrow.Author.Rules.{rules}
use borrow.Author.Tests.{tests}
use Rattle.voting_decisions.proofs.finished.Goals as goal

pub returns-in_err-table : goal.returns-in_err-table
returns-in_err-table c =
    λ R e k h.
    let i = checked-fit R k in
    let w = scheduled-rest R i.formed h in
    let g : Paged R w.0 c.index_table-index.result c.pages-paged.result = record { formed = i.formed; indexed = c.index_table-index.ensures R e i; paged = c.pages-paged.ensures R e i ∙ ap (λ (row : List ℕ). values_of R (place_in row)) w.1 } in
    let p = err_from_is_err_and c.from_residual.result c.from_residual.ensures.1 in
    p.1 ∙ ap Err p.2
    ∙ stays-full (united constraint_key R.constraints (decisions (0 ∷ w.0) (written R))) (orders (0 ∷ w.0) (unordered R)) (c.in_err-table.ensures R w.0 _ e k g) ∙ ap table_of (finished-is R w.0 w.1)

pub returns : goal.returns
returns c =
    λ R e k h.
    let i = checked-fit R k in
    let w = scheduled-rest R i.formed h in
    let index = c.index_table-index.result in
    let paged = c.pages-paged.result in
    let g : Paged R w.0 index paged = record { formed = i.formed; indexed = c.index_table-index.ensures R e i; paged = c.pages-paged.ensures R e i ∙ ap (λ (row : List ℕ). values_of R (place_in row)) w.1 } in
    let d = united constraint_key R.constraints (decisions (0 ∷ w.0) (written R)) in
    c.with_orders.ensures d (rank_of index paged) (λ x r p. search (rules, tests)) (c.in_ok-table.ensures R w.0 _ e k g)
    (ascending-united constraint_key R.constraints (decisions (0 ∷ w.0) (written R)) k.constraintorder)
    ∙ ap (λ (l : List Constraint). table_of (united constraint_key d l))
    (ap (flat_map (pair_order (rank_of index paged))) (c.slice.ensures ∙ c.unordered_pairs-pairs.ensures.pairs R e i) ∙ orders-by-page R w.0 _ _ g i.paired) ∙ ap table_of (finished-is R w.0 w.1)
